use Rattle.rec_check.proofs.Common.{arith, common_steps, length-map}
use Rattle.rec_check.proofs.Chains.{sides}
use Rattle.rec_check.proofs.rules.sides_of.Goals as goal

pub returns : goal.returns
returns c = grind (arith, common_steps, sides, length-map)
