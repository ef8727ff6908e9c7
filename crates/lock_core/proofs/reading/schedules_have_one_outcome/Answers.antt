use Rattle.lock_core.proofs.OneOutcome.{one_outcome}
use Rattle.lock_core.proofs.reading.schedules_have_one_outcome.Goals as goal

pub returns : goal.returns
returns c = λ n l k ls r q few a b. one_outcome n few l k ls r q a b
