use Rattle.rec_offences.proofs.Common.{arith, common_steps, take-map}
use Rattle.rec_offences.proofs.scope.Scope.truncate.Goals as goal

pub invariant_of-self : goal.invariant_of-self
invariant_of-self c = grind (arith, common_steps, take-map)

pub returns : goal.returns
returns c = grind (arith, common_steps, take-map)
