use Rattle.rewrite_model.proofs.Reached.{evaluation_comes}
use Rattle.rewrite_model.proofs.OutermostReached.{outermost_comes}
use Rattle.rewrite_model.proofs.laws.value_laws.Goals as goal

pub returns-clause-innermost : goal.returns-clause-innermost
returns-clause-innermost c = evaluation_comes

pub returns-clause-outermost : goal.returns-clause-outermost
returns-clause-outermost c = outermost_comes
