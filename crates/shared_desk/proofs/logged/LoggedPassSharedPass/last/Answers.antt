use Rattle.std.proofs.Common.{◌∙◌, ap}
use Rattle.node_rows.specs.Told.{last_in}
use Rattle.shared_desk.specs.Code.{LoggedView}
use Rattle.shared_desk.proofs.logged.LoggedPassSharedPass.last.Goals as goal

pub returns : goal.returns
returns g c = c.last.ensures ∙ ap (λ (l : LoggedView). last_in l.pass.entries) c.self.view_is
