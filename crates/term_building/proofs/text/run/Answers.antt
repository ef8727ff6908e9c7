use Rattle.std.proofs.Common.{◌≡◌, ◌≤◌, length, sym, subst, arith}
use Rattle.term_building.specs.Reached.{HasPassed}
use Rattle.term_building.specs.Ready.{state_in}
use Rattle.term_building.specs.Stages.{stage_of}
use Rattle.term_building.proofs.Passing.{passed_none}
use Rattle.term_building.proofs.text.run.Goals as goal

pub loop-at-init : goal.loop-at-init
loop-at-init g c =
    let b = c.in_ok-builder.ensures in
    record {
      within = omega arith;
      ready = record {
        inside = c.requires.inside;
        wide = subst (λ k. k ≤ (g.T.Terms.store c.args.store.now).widest) (sym b.most) c.requires.wide;
        cells = c.requires.cells;
        known = b.known;
      };
      same = g.met.T.Terms.same_as_itself _;
      passed = passed_none c.args.text.now _ (λ i. record {
        stage = stage_of (b.stage i) c.in_ok-builder.builder.heading;
        groups = b.groups i;
        written = b.written i;
        from = b.from i;
        symbols = b.symbols i;
        trees = c.requires.empty i;
      });
    }

pub loop-at-preserved : goal.loop-at-preserved
loop-at-preserved g c =
    let l = c.loop-at in
    let taken = c.in-Ok.ensures in
    record {
      within = taken.passes.within;
      ready = taken.ready;
      same = g.met.T.Terms.same_in_turn _ _ _ l.invariant.same taken.same;
      passed = taken.passes.passed l.invariant.passed;
    }

pub returns : goal.returns
returns g c =
    let l = c.loop-at in
    let past = c.loop-at-test.false in
    let within = l.invariant.within in
    let all : l.at ≡ length c.args.text.now = omega (arith, past, within) in
    record {
      passed = subst (λ k. HasPassed c.args.text.now k (state_in l.builder (g.T.Terms.store l.store))) all l.invariant.passed;
      ready = c.loop-at.invariant.ready;
      same = c.loop-at.invariant.same;
    }
