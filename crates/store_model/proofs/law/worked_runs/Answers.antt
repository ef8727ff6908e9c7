use Rattle.store_model.proofs.Worked.{race_finds, lost_makes, sweep_keeps, sweep_frees, must_free, nest_keeps, use_doubles, worn_at_last}
use Rattle.store_model.proofs.WorkedPlaced.{runs_are_in_place}
use Rattle.store_model.proofs.law.worked_runs.Goals as goal

pub returns-clause-race : goal.returns-clause-race
returns-clause-race c = race_finds

pub returns-clause-lost : goal.returns-clause-lost
returns-clause-lost c = lost_makes

pub returns-clause-sweep : goal.returns-clause-sweep
returns-clause-sweep c = sweep_keeps

pub returns-clause-doubles : goal.returns-clause-doubles
returns-clause-doubles c = use_doubles

pub returns-clause-worn : goal.returns-clause-worn
returns-clause-worn c = worn_at_last

pub returns-clause-frees : goal.returns-clause-frees
returns-clause-frees c = sweep_frees

pub returns-clause-must_free : goal.returns-clause-must_free
returns-clause-must_free c = must_free

pub returns-clause-placed : goal.returns-clause-placed
returns-clause-placed c = runs_are_in_place

pub returns-clause-nest : goal.returns-clause-nest
returns-clause-nest c = nest_keeps
