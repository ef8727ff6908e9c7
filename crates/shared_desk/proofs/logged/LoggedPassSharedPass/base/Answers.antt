use Rattle.std.proofs.Common.{◌≡◌, ◌⊎◌, ◌∙◌, true, sym, ap, subst}
use Rattle.shared_desk.specs.Code.{LoggedView}
use Rattle.shared_desk.proofs.logged.LoggedPassSharedPass.base.Goals as goal

pub base-requires : goal.base-requires
base-requires g c = subst (λ (l : LoggedView). (l.pass.shared ≡ true) ⊎ (l.pass.alone ≡ true)) (sym c.self.view_is) c.requires

pub returns : goal.returns
returns g c = c.base.ensures ∙ ap (λ (l : LoggedView). l.pass.base) c.self.view_is
