use Rattle.std.proofs.Common.{◌∙◌, ap}
use Rattle.node_rows.specs.Told.{last_in}
use Rattle.shared_desk.specs.Pass.{PassView}
use Rattle.shared_desk.proofs.own_pass.OwnPassSharedPass.last.Goals as goal

pub returns : goal.returns
returns g c = c.last.ensures ∙ ap (λ (x : PassView). last_in x.entries) c.self.view_is
