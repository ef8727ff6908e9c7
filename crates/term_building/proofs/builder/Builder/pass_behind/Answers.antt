use Rattle.std.proofs.Common.{◌+◌, refl, sym, subst}
use Rattle.term_building.specs.Reached.{Reaches}
use Rattle.term_building.specs.Ready.{state_in}
use Rattle.term_building.specs.Taken.{IsBehind}
use Rattle.term_building.proofs.Passing.{reaches_none, reaches_on}
use Rattle.term_building.proofs.builder.Builder.pass_behind.Goals as goal

pub loop-next-init : goal.loop-next-init
loop-next-init g c = record {
  reaches = reaches_none c.args.text.now c.args.at _ _ c.requires.at refl;
  ready = c.requires.ready;
  same = g.met.T.Terms.same_as_itself _;
  stage = c.requires.stage;
}

pub loop-next-preserved : goal.loop-next-preserved
loop-next-preserved g c =
    let text = c.args.text.now in
    let l = c.loop-next in
    let taken = c.in_ok-on_mark.ensures in
    let mid = state_in l.self (g.T.Terms.store l.store) in
    let new = state_in c.on_mark.new.self (g.T.Terms.store c.on_mark.new.store) in
    let behind = subst (λ b. IsBehind b text l.next mid new) c.in-Closed.is taken.behind in
    record {
      reaches = reaches_on text c.args.at l.next (l.next + 1) _ mid new l.invariant.reaches behind.0;
      ready = taken.ready;
      same = g.met.T.Terms.same_in_turn _ _ _ l.invariant.same taken.same;
      stage = behind.1;
    }

pub returns-in-Comma : goal.returns-in-Comma
returns-in-Comma g c =
    let text = c.args.text.now in
    let l = c.loop-next in
    let mid = state_in l.self (g.T.Terms.store l.store) in
    let new = state_in c.on_mark.new.self (g.T.Terms.store c.on_mark.new.store) in
    record {
      reaches = reaches_on text c.args.at l.next (l.next + 1) _ mid new l.invariant.reaches (subst (λ b. IsBehind b text l.next mid new) c.in-Comma.is c.in_ok-on_mark.ensures.behind);
      ready = c.in_ok-on_mark.ensures.ready;
      same = g.met.T.Terms.same_in_turn _ _ _ c.loop-next.invariant.same c.in_ok-on_mark.ensures.same;
    }

pub returns-in-Other : goal.returns-in-Other
returns-in-Other g c =
    let text = c.args.text.now in
    let l = c.loop-next in
    let old = state_in c.args.self.now (g.T.Terms.store c.args.store.now) in
    let mid = state_in l.self (g.T.Terms.store l.store) in
    let new = state_in c.on_mark.new.self (g.T.Terms.store c.on_mark.new.store) in
    record {
      reaches = subst (λ s. Reaches text c.args.at old l.next s) (sym (subst (λ b. IsBehind b text l.next mid new) c.in-Other.is c.in_ok-on_mark.ensures.behind)) l.invariant.reaches;
      ready = c.in_ok-on_mark.ensures.ready;
      same = g.met.T.Terms.same_in_turn _ _ _ c.loop-next.invariant.same c.in_ok-on_mark.ensures.same;
    }
