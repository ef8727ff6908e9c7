use Rattle.rewrite_model.proofs.OutermostFuel.{change_takes_one, same_takes_none, fuel_is_steps}
use Rattle.rewrite_model.proofs.laws.outermost_fuel_laws.Goals as goal

pub returns-clause-change : goal.returns-clause-change
returns-clause-change c = change_takes_one

pub returns-clause-same : goal.returns-clause-same
returns-clause-same c = same_takes_none

pub returns-clause-steps : goal.returns-clause-steps
returns-clause-steps c = fuel_is_steps
