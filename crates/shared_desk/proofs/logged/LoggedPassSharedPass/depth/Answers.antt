use Rattle.std.proofs.Common.{◌∙◌, ap}
use Rattle.shared_desk.specs.Code.{LoggedView}
use Rattle.shared_desk.proofs.logged.LoggedPassSharedPass.depth.Goals as goal

pub returns : goal.returns
returns g c = c.depth.ensures ∙ ap (λ (l : LoggedView). l.pass.depth) c.self.view_is
