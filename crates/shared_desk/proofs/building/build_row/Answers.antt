use Rattle.std.proofs.Common.{arith}
use Rattle.shared_desk.proofs.Sweeping.{may_still, place_still, outcome_still}
use Rattle.shared_desk.proofs.building.build_row.Goals as goal

pub try_create-requires : goal.try_create-requires
try_create-requires g c = record { inside = c.requires.inside; may = c.requires.may; place = c.requires.place }

pub build_late-requires : goal.build_late-requires
build_late-requires g c =
    let v = g.S.SharedPass.view c.args.pass.now in
    let x = g.S.SharedPass.view c.try_create.new.pass in
    let p = c.args.places.now in
    let q = c.try_create.new.places in
    let e = c.in-Err.ensures in
    record {
      inside = c.try_create.ensures.inside;
      may = may_still v x p q c.args.head c.args.n e.unchanged e.stack c.requires.may;
      place = place_still v x p q c.args.n e.unchanged e.stack c.requires.place;
    }

pub returns-in-Ok : goal.returns-in-Ok
returns-in-Ok g c = record { outcome = (0, omega arith, c.in-Ok.ensures.placed); inside = c.try_create.ensures.inside }

pub returns-in-Err : goal.returns-in-Err
returns-in-Err g c =
    let v = g.S.SharedPass.view c.args.pass.now in
    let x = g.S.SharedPass.view c.try_create.new.pass in
    let w = g.S.SharedPass.view c.build_late.new.pass in
    let e = c.in-Err.ensures in
    let b = c.build_late.ensures in
    record {
      outcome = outcome_still v x w c.args.places.now c.try_create.new.places c.build_late.new.places.items c.args.head c.args.n c.build_late.result e.unchanged e.stack b.outcome;
      inside = b.inside;
    }
