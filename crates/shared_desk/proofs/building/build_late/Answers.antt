use Rattle.std.proofs.Common.{arith}
use Rattle.shared_desk.proofs.Following.{placed_after}
use Rattle.shared_desk.proofs.Sweeping.{may_after, may_still, place_after, place_still, outcome_after, outcome_still}
use Rattle.shared_desk.proofs.building.build_late.Goals as goal

pub try_create-requires : goal.try_create-requires
try_create-requires g c =
    let v = g.S.SharedPass.view c.args.pass.now in
    let m = g.S.SharedPass.view c.go_round.new.pass in
    let xs = c.args.places.now.items in
    let e = c.go_round.ensures in
    record {
      inside = e.inside;
      may = may_after 0 v m xs c.args.head c.args.n c.requires.inside.right.sound e.passed c.requires.may;
      place = place_after 0 v m xs c.args.n e.passed c.requires.place;
    }

pub build_again-requires-in-Err : goal.build_again-requires-in-Err
build_again-requires-in-Err g c =
    let v = g.S.SharedPass.view c.args.pass.now in
    let m = g.S.SharedPass.view c.go_round.new.pass in
    let x = g.S.SharedPass.view c.try_create.new.pass in
    let p = c.args.places.now in
    let q = c.try_create.new.places in
    let e = c.in-Err.ensures in
    let passed = c.go_round.ensures.passed in
    record {
      inside = c.try_create.ensures.inside;
      may = may_still m x p q c.args.head c.args.n e.unchanged e.stack (may_after 0 v m p.items c.args.head c.args.n c.requires.inside.right.sound passed c.requires.may);
      place = place_still m x p q c.args.n e.unchanged e.stack (place_after 0 v m p.items c.args.n passed c.requires.place);
    }

pub returns-in-Ok : goal.returns-in-Ok
returns-in-Ok g c =
    let v = g.S.SharedPass.view c.args.pass.now in
    let m = g.S.SharedPass.view c.go_round.new.pass in
    let w = g.S.SharedPass.view c.try_create.new.pass in
    record {
      outcome = (0, omega arith, placed_after 0 0 v m w c.args.places.now.items c.try_create.new.places.items c.args.head c.args.n c.requires.inside.right.sound c.go_round.ensures.passed c.in-Ok.ensures.placed);
      inside = c.try_create.ensures.inside;
    }

pub returns-in-Err : goal.returns-in-Err
returns-in-Err g c =
    let v = g.S.SharedPass.view c.args.pass.now in
    let m = g.S.SharedPass.view c.go_round.new.pass in
    let x = g.S.SharedPass.view c.try_create.new.pass in
    let w = g.S.SharedPass.view c.build_again-in-Err.new.pass in
    let p = c.args.places.now in
    let q = c.try_create.new.places in
    let ys = c.build_again-in-Err.new.places.items in
    let r = c.build_again-in-Err.result in
    let e = c.in-Err.ensures in
    let b = c.build_again-in-Err.ensures in
    record {
      outcome = outcome_after v m w p.items ys c.args.head c.args.n r c.requires.inside.right.sound c.go_round.ensures.passed
          (outcome_still m x w p q ys c.args.head c.args.n r e.unchanged e.stack b.outcome);
      inside = b.inside;
    }
