use Rattle.busy_forbidden.proofs.One.{shows_one, at_rest}
use Rattle.busy_forbidden.proofs.law.lock_is_one.Goals as goal

pub returns-clause-one : goal.returns-clause-one
returns-clause-one c = shows_one

pub returns-clause-at_rest : goal.returns-clause-at_rest
returns-clause-at_rest c = at_rest
