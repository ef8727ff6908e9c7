use Rattle.std.proofs.Common.{◌∙◌, ap}
use Rattle.shared_desk.specs.Code.{LoggedView}
use Rattle.shared_desk.proofs.logged.LoggedPassSharedPass.rows.Goals as goal

pub returns : goal.returns
returns g c = c.rows.ensures ∙ ap (λ (l : LoggedView). l.pass.rows) c.self.view_is
