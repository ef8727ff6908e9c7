use Rattle.rewrite_model.proofs.Fuel.{begins_with_itself, fuel_falls, more_fuel_is_left}
use Rattle.rewrite_model.proofs.laws.fuel_laws.Goals as goal

pub returns-clause-equation : goal.returns-clause-equation
returns-clause-equation c = begins_with_itself

pub returns-clause-falls : goal.returns-clause-falls
returns-clause-falls c = fuel_falls

pub returns-clause-more : goal.returns-clause-more
returns-clause-more c = more_fuel_is_left
