use Rattle.std.proofs.Common.{◌↔◌, subst}
use Rattle.std.specs.Prelude.{IsTrue, Contains}
use Rattle.node_rows.specs.Crowding.{kept_in}
use Rattle.shared_desk.specs.Code.{LoggedView}
use Rattle.shared_desk.proofs.logged.LoggedPassSharedPass.kept.Goals as goal

pub returns : goal.returns
returns g c = subst (λ (l : LoggedView). IsTrue c.kept.result ↔ Contains (kept_in l.pass.entries) c.args.row.0) c.self.view_is c.kept.ensures
