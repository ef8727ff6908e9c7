use Rattle.std.proofs.Common.{refl, arith, ◌≤◌, ◌+◌}
use Rattle.store_model.specs.declared.view.Call.{Call}
use Rattle.std.proofs.Common.{ap}
use Rattle.store_model.specs.declared.view.Call.TheVariants.{Linking}
use Rattle.node_rows.specs.Rows.{names}
use Rattle.term_create.specs.Stage.{at_call, content}
use Rattle.term_create.proofs.Told.{notes_on}
use Rattle.term_create.proofs.Whole.{same_joined}
use Rattle.term_create.proofs.making.publish_row.Goals as goal

pub loop-step-init : goal.loop-step-init
loop-step-init g c = let v = c.args.seat.now.seat.me.0 in record {
  at = c.requires.at;
  same = record { same = record { table = refl; id = refl; slots = refl }; number = refl; seats = refl };
  view = (v.store.passed, v.store.path, (let l : v.store.passed + 0 ≤ v.store.passed = omega arith in l), ap (λ (x : Call). at_call v x) c.requires.stage);
  cost = omega arith;
}

pub returns-in-Ok : goal.returns-in-Ok
returns-in-Ok g c =
    let a = c.args.asked.now in
    let d = c.args.drawn in
    let i = c.loop-step.invariant in
    let e = c.publish_once.ensures in
    let more = c.loop-step-test.true in
    record {
      at = e.at;
      same = same_joined i.same e.same;
      view = notes_on c.args.seat.now.seat.me.0 c.loop-step.seat.seat.me.0 c.publish_once.new.seat.seat.me.0 i.view.0 i.view.1 (Linking (content a) c.loop-step.head_read d.index d.row) a.head (names a.args.now) c.in-Ok.result i.view.3 c.in-Ok.ensures.view;
      cost = omega (arith, i.cost, c.in-Ok.ensures.cost);
    }
