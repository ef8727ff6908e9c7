use Rattle.term_model.proofs.Equality.{equality_is_exact, among_is_exact}
use Rattle.term_model.proofs.laws.equality_laws.Goals as goal

pub returns-clause-equality : goal.returns-clause-equality
returns-clause-equality c = equality_is_exact

pub returns-clause-membership : goal.returns-clause-membership
returns-clause-membership c = among_is_exact
