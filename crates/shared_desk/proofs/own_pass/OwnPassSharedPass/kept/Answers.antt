use Rattle.std.proofs.Common.{◌↔◌, subst}
use Rattle.std.specs.Prelude.{Contains, IsTrue}
use Rattle.node_rows.specs.Crowding.{kept_in}
use Rattle.shared_desk.specs.Pass.{PassView}
use Rattle.shared_desk.proofs.own_pass.OwnPassSharedPass.kept.Goals as goal

pub returns : goal.returns
returns g c = subst (λ (x : PassView). IsTrue c.kept.result ↔ Contains (kept_in x.entries) c.args.row.0) c.self.view_is c.kept.ensures.kept
