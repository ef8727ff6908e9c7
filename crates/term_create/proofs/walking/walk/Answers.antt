use Rattle.std.proofs.Common.{◌≡◌, suc, ◌+◌, ◌-◌, ◌++◌, max, pred, eqb, false, ap, ◌∙◌, arith, subst}
use Rattle.store_model.specs.Machine.{widest, gained}
use Rattle.std.proofs.lemmas.Bool.Decides.{nat_tests}
use Rattle.store_model.specs.declared.view.Call.{Call}
use Rattle.store_model.specs.declared.view.Call.TheVariants.{Finding}
use Rattle.history_core.specs.declared.entry.Entry.TheVariants.{Find}
use Rattle.node_rows.specs.Steps.{Stands, Few, with_store}
use Rattle.node_rows.specs.Rows.{names}
use Rattle.node_rows.specs.declared.view.NodeView.{NodeView}
use Rattle.term_create.specs.Stage.{at_call, content}
use Rattle.term_create.proofs.Whole.{walk_goes_on, walk_passes, same_joined}
use Rattle.term_create.proofs.Views.{compares, other_here}
use Rattle.term_create.proofs.Costs.{walk_more, walk_found, few_before}
use Rattle.term_create.proofs.walking.walk.Goals as goal

pub loop-step-preserved : goal.loop-step-preserved
loop-step-preserved g c =
    let v = c.args.seat.now.seat.me.0 in
    let u = c.loop-step.seat.seat.me.0 in
    let w = c.compare_row.new.seat.seat.me.0 in
    let x = c.pass_on-at.new.seat.seat.me.0 in
    let other = c.if-compare_row.ensures.view in
    let on = c.pass_on-at.ensures.view in
    record {
      at = c.pass_on-at.ensures.at;
      same = same_joined c.loop-step.invariant.same (same_joined c.if-compare_row.ensures.same c.pass_on-at.ensures.same);
      view = walk_goes_on v u w x (content c.args.asked.now) c.args.walk.drawn c.args.walk.from c.args.walk.old c.loop-step.at c.pass_on-at.result c.loop-step._step
          c.loop-step.invariant.view other on
          (subst (λ (q : NodeView). Stands q.store.call) other.view c.if-compare_row.ensures.at.known.stands);
      first = λ e. absurd (omega (arith, e));
      cost = walk_more (widest c.args.asked.now.store.now.sizes) v.store.passed c.args.steps.now c.loop-step.steps c.compare_row.new.steps c.pass_on-at.new.steps u.store.passed x.store.passed
          c.loop-step.invariant.cost c.if-compare_row.ensures.cost c.pass_on-at.ensures.tick
          (ap (λ (q : NodeView). q.store.passed) on.view ∙ ap (λ (q : NodeView). suc q.store.passed) other.view);
    }

pub compare_row-requires-clause-stage : goal.compare_row-requires-clause-stage
compare_row-requires-clause-stage g c =
    let d = c.args.walk in
    compares c.args.seat.now.seat.me.0 c.loop-step.seat.seat.me.0 (content c.args.asked.now) d.drawn d.from d.old c.loop-step.at c.loop-step._step c.loop-step.invariant.view c.if-at-walk.false

pub pass_on-at-requires-clause-stage : goal.pass_on-at-requires-clause-stage
pass_on-at-requires-clause-stage g c =
    let d = c.args.walk in
    other_here c.loop-step.seat.seat.me.0 c.compare_row.new.seat.seat.me.0 (content c.args.asked.now) d.drawn d.from d.old c.loop-step.at c.if-compare_row.ensures.view

pub returns-then-at-walk : goal.returns-then-at-walk
returns-then-at-walk g c =
    let d = c.args.walk in
    let i = c.loop-step.invariant in
    record {
      at = i.at;
      same = i.same;
      view = walk_passes c.args.seat.now.seat.me.0 c.loop-step.seat.seat.me.0 c.loop-step._step (content c.args.asked.now) d.drawn d.from d.old c.loop-step.at i.view i.first c.if-at-walk.true;
      cost = i.cost;
    }

pub returns-then-compare_row : goal.returns-then-compare_row
returns-then-compare_row g c =
    let a = c.args.asked.now in
    let z = a.store.now.sizes in
    let d = c.args.walk in
    let v = c.args.seat.now.seat.me.0 in
    let u = c.loop-step.seat.seat.me.0 in
    let i = c.loop-step.invariant in
    let e = c.if-compare_row.ensures in
    let f = c.find-birth.ensures in
    let n = c.find-birth.result in
    let r = c.loop-step.at - 1 in
    let no = c.if-at-walk.false in
    let other : eqb c.loop-step.at d.old ≡ false = grind (arith, nat_tests) in
    let few : Few z.rows u.store.passed u.store.call = i.at.known.few in
    record {
      at = f.at;
      same = same_joined i.same (same_joined e.same f.same);
      view = record {
        passed = v.store.passed + c.loop-step._step;
        path = v.store.path ++ i.view.path;
        view = f.view ∙ ap (λ (q : NodeView). with_store q (gained q.store (content a) r n (Find (max q.store.seen n) a.head (names a.args.now) r)))
            (e.view ∙ ap (λ (q : NodeView). at_call q (Finding (content a) d.drawn (pred c.loop-step.at))) i.view.view);
      };
      cost = walk_found (widest z) z.rows v.store.passed c.args.steps.now c.loop-step.steps c.compare_row.new.steps c.find-birth.new.steps u.store.passed i.cost
          (few_before z.rows u.store.passed (content a) d.drawn d.from d.old c.loop-step.at other
          (subst (λ (x : Call). Few z.rows u.store.passed x) (ap (λ (q : NodeView). q.store.call) i.view.view) few))
          e.cost f.tick;
    }
