use Rattle.std.proofs.Common.{◌+◌, ◌≤◌, ◌++◌, length, sym, subst, arith}
use Rattle.std.specs.Prelude.{All}
use Rattle.terms_api.specs.Terms.{IsHeld, MayBuild, NeedsPlace}
use Rattle.row_stack.specs.Places.{Places}
use Rattle.shared_desk.specs.Pass.{PassView, store}
use Rattle.shared_desk.specs.Desk.{Outcome}
use Rattle.shared_desk.proofs.building.build_over.Goals as goal

pub try_create_over-requires : goal.try_create_over-requires
try_create_over-requires g c =
    let r = c.requires in
    record { inside = r.inside; held = r.held; room = r.room; may = r.may; place = r.place }

pub build_pushed-requires : goal.build_pushed-requires
build_pushed-requires g c =
    let r = c.requires in
    let p = c.args.places.now in
    let q = c.try_create_over.new.places in
    let v = g.S.SharedPass.view c.args.pass.now in
    let rs = c.args.rows.now in
    let e = sym c.in-Err.ensures.unchanged in
    let k = sym c.in-Err.ensures.stack in
    record {
      inside = c.try_create_over.ensures.inside;
      held = subst (λ (z : PassView). All (IsHeld (store z q.items)) rs) e (subst (λ (y : Places). All (IsHeld (store v y.items)) rs) k r.held);
      room = subst (λ (z : PassView). length q.items + length rs ≤ z.depth) e (subst (λ (y : Places). length y.items + length rs ≤ v.depth) k r.room);
      may = subst (λ (z : PassView). MayBuild (store z (q.items ++ rs)) c.args.head (length rs)) e (subst (λ (y : Places). MayBuild (store v (y.items ++ rs)) c.args.head (length rs)) k r.may);
      place = subst (λ (z : PassView). NeedsPlace (store z (q.items ++ rs)) (length rs) → ⊥) e (subst (λ (y : Places). NeedsPlace (store v (y.items ++ rs)) (length rs) → ⊥) k r.place);
    }

pub returns-in-Ok : goal.returns-in-Ok
returns-in-Ok g c = record { outcome = (0, omega arith, c.in-Ok.ensures.placed); inside = c.try_create_over.ensures.inside }

pub returns-in-Err : goal.returns-in-Err
returns-in-Err g c =
    let v = g.S.SharedPass.view c.args.pass.now in
    let w = g.S.SharedPass.view c.build_pushed.new.pass in
    let q = c.try_create_over.new.places in
    let rs = c.args.rows.now in
    let ys = c.build_pushed.new.places.items in
    let b = c.build_pushed.ensures in
    let e = c.in-Err.ensures in
    record {
      outcome = subst (λ (y : Places). Outcome v w (y.items ++ rs) ys c.args.head (length rs) c.build_pushed.result) e.stack
          (subst (λ (z : PassView). Outcome z w (q.items ++ rs) ys c.args.head (length rs) c.build_pushed.result) e.unchanged b.outcome);
      inside = b.inside;
    }
