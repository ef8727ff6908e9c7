use Rattle.std.proofs.Common.{◌∙◌, sym, ap, subst}
use Rattle.shared_desk.specs.Code.{LoggedView}
use Rattle.shared_desk.specs.Pass.{PassView, Arrived}
use Rattle.shared_desk.specs.Logged.{AreTold}
use Rattle.shared_desk.proofs.logged.LoggedPassSharedPass.enter_exclusive.Goals as goal

pub enter_exclusive-requires : goal.enter_exclusive-requires
enter_exclusive-requires g c =
    let e = c.self.view_is in
    record {
      shared = ap (λ (l : LoggedView). l.pass.shared) e ∙ c.requires.shared;
      alone = ap (λ (l : LoggedView). l.pass.alone) e ∙ c.requires.alone;
    }

pub invariant_of-self : goal.invariant_of-self
invariant_of-self g c = subst (AreTold c.self.inside.log) (sym (ap (λ (x : PassView). x.entries) c.enter_exclusive.ensures.arrived.rest)) c.self.invariant

pub returns : goal.returns
returns g c =
    let e = c.enter_exclusive.ensures in
    record {
      arrived = subst (λ (l : LoggedView). Arrived l.pass (g.S.SharedPass.view c.enter_exclusive.new.self)) c.self.view_is e.arrived;
      shared = e.shared;
      alone = e.alone;
      sound = e.sound;
    }
