use Rattle.store_core.proofs.Meant.{claims_all}
use Rattle.store_core.proofs.machine.claiming.plan_claim.Goals as goal

pub returns-in-Storing : goal.returns-in-Storing
returns-in-Storing c = let e = c.in-Storing.is in claims_all c.args.sight.now _ _ c.args.value c.plan_end.new.view c.plan_end.result e c.plan_end.ensures
