use Rattle.run_checks.proofs.Accepting.{outputs_are_derived}
use Rattle.run_checks.proofs.laws.acceptance_laws.Goals as goal

pub returns : goal.returns
returns c = record { derived = outputs_are_derived }
