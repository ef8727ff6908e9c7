use Rattle.std.proofs.Common.{refl, subst}
use Rattle.row_stack.specs.Places.{Places}
use Rattle.shared_desk.specs.Desk.{Passed}
use Rattle.shared_desk.proofs.Passing.{passed_none, passed_twice}
use Rattle.shared_desk.proofs.Following.{placed_after}
use Rattle.shared_desk.proofs.Sweeping.{may_after, place_after}
use Rattle.shared_desk.proofs.building.try_again.Goals as goal

pub returns-then-base-before : goal.returns-then-base-before
returns-then-base-before g c = record {
  placed = tt;
  inside = tt;
  passed = passed_none (g.S.SharedPass.view c.args.pass.now) c.args.places.now.items c.requires.ready.alone.sound;
  stack = refl;
  ready = c.requires.ready;
}

pub try_create-requires : goal.try_create-requires
try_create-requires g c =
    let v = g.S.SharedPass.view c.args.pass.now in
    let m = g.S.SharedPass.view c.come_back.new.pass in
    let xs = c.args.places.now.items in
    let e = c.come_back.ensures in
    record {
      inside = e.inside;
      may = may_after 0 v m xs c.args.head c.args.n c.requires.ready.alone.sound e.passed c.requires.may;
      place = place_after 0 v m xs c.args.n e.passed c.requires.place;
    }

pub returns-in-Ok : goal.returns-in-Ok
returns-in-Ok g c =
    let v = g.S.SharedPass.view c.args.pass.now in
    let m = g.S.SharedPass.view c.come_back.new.pass in
    let w = g.S.SharedPass.view c.try_create.new.pass in
    record {
      placed = placed_after 0 0 v m w c.args.places.now.items c.try_create.new.places.items c.args.head c.args.n c.requires.ready.alone.sound c.come_back.ensures.passed c.in-Ok.ensures.placed;
      inside = c.try_create.ensures.inside;
      passed = tt;
      stack = tt;
      ready = tt;
    }

pub returns-in-Err : goal.returns-in-Err
returns-in-Err g c =
    let v = g.S.SharedPass.view c.args.pass.now in
    let m = g.S.SharedPass.view c.come_back.new.pass in
    let x = g.S.SharedPass.view c.try_create.new.pass in
    let w = g.S.SharedPass.view c.go_alone.new.pass in
    let xs = c.args.places.now.items in
    let e = c.in-Err.ensures in
    let b = c.go_alone.ensures in
    record {
      placed = tt;
      inside = tt;
      passed = passed_twice 0 0 v m w xs c.requires.ready.alone.sound c.come_back.ensures.passed
          (subst (λ z. Passed 0 z w xs) e.unchanged (subst (λ (q : Places). Passed 0 x w q.items) e.stack b.passed));
      stack = e.stack;
      ready = b.ready;
    }
