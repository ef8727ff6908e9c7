use Rattle.std.proofs.Common.{◌∙◌, ap}
use Rattle.shared_desk.specs.Pass.{PassView, left}
use Rattle.shared_desk.proofs.Standing.{is_in_shared, standing_left, left_is}
use Rattle.shared_desk.proofs.own_pass.OwnPassSharedPass.leave_shared.Goals as goal

pub leave_shared-requires : goal.leave_shared-requires
leave_shared-requires g c =
    let h = c.self.invariant in
    let a = is_in_shared c.self.inside.store.now c.self.inside.pass h (ap (λ (x : PassView). x.shared) c.self.view_is ∙ c.requires.shared) in
    record { of = h.of; shared = a.0; ready = a.1 }

pub invariant_of-self : goal.invariant_of-self
invariant_of-self g c =
    let e = c.leave_shared.ensures in
    standing_left c.self.inside.store.now c.self.inside.pass c.leave_shared.new.pass c.self.invariant e.pass e.same e.told e.crowd e.left e.out

pub returns : goal.returns
returns g c =
    let e = c.leave_shared.ensures in
    left_is c.self.inside.store.now c.self.inside.pass c.leave_shared.new.pass c.self.invariant e.pass e.same e.told e.crowd e.left e.out ∙ ap left c.self.view_is
