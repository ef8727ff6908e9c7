use Rattle.rewrite_model.proofs.Matches.{match_gives_instance, match_binds_variables, instances_match}
use Rattle.rewrite_model.proofs.laws.matching_laws.Goals as goal

pub returns-clause-instance : goal.returns-clause-instance
returns-clause-instance c = match_gives_instance

pub returns-clause-variables : goal.returns-clause-variables
returns-clause-variables c = match_binds_variables

pub returns-clause-found : goal.returns-clause-found
returns-clause-found c = instances_match
