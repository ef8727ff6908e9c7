use Rattle.std.proofs.Common.{◌∙◌, ap}
use Rattle.shared_desk.specs.Pass.{PassView, left}
use Rattle.shared_desk.proofs.Standing.{is_in_exclusive, standing_left, left_is}
use Rattle.shared_desk.proofs.own_pass.OwnPassSharedPass.leave_exclusive.Goals as goal

pub leave_exclusive-requires : goal.leave_exclusive-requires
leave_exclusive-requires g c =
    let h = c.self.invariant in
    let a = is_in_exclusive c.self.inside.store.now c.self.inside.pass h (ap (λ (x : PassView). x.alone) c.self.view_is ∙ c.requires.alone) in
    record { of = h.of; granted = a.0; ready = a.1 }

pub invariant_of-self : goal.invariant_of-self
invariant_of-self g c =
    let e = c.leave_exclusive.ensures in
    standing_left c.self.inside.store.now c.self.inside.pass c.leave_exclusive.new.pass c.self.invariant e.pass e.same e.told e.crowd e.left e.out

pub returns : goal.returns
returns g c =
    let e = c.leave_exclusive.ensures in
    left_is c.self.inside.store.now c.self.inside.pass c.leave_exclusive.new.pass c.self.invariant e.pass e.same e.told e.crowd e.left e.out ∙ ap left c.self.view_is
