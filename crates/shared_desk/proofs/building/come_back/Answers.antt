use Rattle.std.proofs.Common.{◌∙◌, ap, sym, subst}
use Rattle.shared_desk.specs.Pass.{PassView, Arrived}
use Rattle.shared_desk.proofs.Passing.{back, back_in}
use Rattle.shared_desk.proofs.building.come_back.Goals as goal

pub leave_exclusive-requires : goal.leave_exclusive-requires
leave_exclusive-requires g c = record { alone = c.requires.alone.alone; roots = c.requires.alone.roots ∙ sym c.rows.ensures }

pub enter_shared-requires : goal.enter_shared-requires
enter_shared-requires g c =
    let e = c.leave_exclusive.ensures in
    record {
      shared = ap (λ (x : PassView). x.shared) e;
      alone = ap (λ (x : PassView). x.alone) e;
    }

pub returns : goal.returns
returns g c =
    let v = g.S.SharedPass.view c.args.pass.now in
    let w = g.S.SharedPass.view c.enter_shared.new.self in
    let p = c.args.places.now in
    let d = c.enter_shared.ensures in
    let e = c.leave_exclusive.ensures in
    let a = subst (λ x. Arrived x w) e d.arrived in
    record {
      inside = back_in v w p c.requires.alone a d.sound d.shared d.alone;
      passed = back v w p c.requires.alone a d.sound;
      crowd = ap (λ (x : PassView). x.crowd) a.rest;
      hand = ap (λ (x : PassView). x.hand) a.rest;
    }
