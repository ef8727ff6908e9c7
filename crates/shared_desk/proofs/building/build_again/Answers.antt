use Rattle.std.proofs.Common.{sym, subst, arith}
use Rattle.terms_api.specs.Terms.{MayBuild, NeedsPlace}
use Rattle.row_stack.specs.Places.{Places}
use Rattle.shared_desk.specs.Pass.{store}
use Rattle.shared_desk.specs.Desk.{Outcome}
use Rattle.shared_desk.proofs.Passing.{passed_twice}
use Rattle.shared_desk.proofs.Following.{placed_after}
use Rattle.shared_desk.proofs.Sweeping.{may_after, place_after, outcome_after}
use Rattle.shared_desk.proofs.building.build_again.Goals as goal

pub try_again-requires : goal.try_again-requires
try_again-requires g c =
    let v = g.S.SharedPass.view c.args.pass.now in
    let m = g.S.SharedPass.view c.go_alone.new.pass in
    let xs = c.args.places.now.items in
    let e = c.go_alone.ensures in
    record {
      ready = e.ready;
      may = may_after 0 v m xs c.args.head c.args.n c.requires.inside.right.sound e.passed c.requires.may;
      place = place_after 0 v m xs c.args.n e.passed c.requires.place;
    }

pub sweep-requires : goal.sweep-requires
sweep-requires g c =
    let v = g.S.SharedPass.view c.args.pass.now in
    let m = g.S.SharedPass.view c.go_alone.new.pass in
    let m' = g.S.SharedPass.view c.try_again.new.pass in
    let xs = c.args.places.now.items in
    let f = c.in-Err.ensures in
    let p = passed_twice 0 0 v m m' xs c.requires.inside.right.sound c.go_alone.ensures.passed f.passed in
    record {
      ready = f.ready;
      may = subst (λ (q : Places). MayBuild (store m' q.items) c.args.head c.args.n) (sym f.stack) (may_after 0 v m' xs c.args.head c.args.n c.requires.inside.right.sound p c.requires.may);
      place = subst (λ (q : Places). NeedsPlace (store m' q.items) c.args.n → ⊥) (sym f.stack) (place_after 0 v m' xs c.args.n p c.requires.place);
    }

pub returns-in-Ok : goal.returns-in-Ok
returns-in-Ok g c =
    let v = g.S.SharedPass.view c.args.pass.now in
    let m = g.S.SharedPass.view c.go_alone.new.pass in
    let w = g.S.SharedPass.view c.try_again.new.pass in
    let e = c.in-Ok.ensures in
    record {
      outcome = (0, omega arith, placed_after 0 0 v m w c.args.places.now.items c.try_again.new.places.items c.args.head c.args.n c.requires.inside.right.sound c.go_alone.ensures.passed e.placed);
      inside = e.inside;
    }

pub returns-in-Err : goal.returns-in-Err
returns-in-Err g c =
    let v = g.S.SharedPass.view c.args.pass.now in
    let m = g.S.SharedPass.view c.go_alone.new.pass in
    let m' = g.S.SharedPass.view c.try_again.new.pass in
    let w = g.S.SharedPass.view c.sweep.new.pass in
    let xs = c.args.places.now.items in
    let ys = c.sweep.new.places.items in
    let f = c.in-Err.ensures in
    let p = passed_twice 0 0 v m m' xs c.requires.inside.right.sound c.go_alone.ensures.passed f.passed in
    let o = subst (λ (q : Places). Outcome m' w q.items ys c.args.head c.args.n c.sweep.result) f.stack c.sweep.ensures.outcome in
    record {
      outcome = outcome_after v m' w xs ys c.args.head c.args.n c.sweep.result c.requires.inside.right.sound p o;
      inside = c.sweep.ensures.inside;
    }
