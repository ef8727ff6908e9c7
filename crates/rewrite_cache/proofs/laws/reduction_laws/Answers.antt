use Rattle.rewrite_cache.proofs.Alike.{fuel_only_falls, is_known, same_trees}
use Rattle.rewrite_cache.proofs.laws.reduction_laws.Goals as goal

pub returns-clause-known : goal.returns-clause-known
returns-clause-known c = λ rules given kept t value fuel room left e.
    (fuel_only_falls rules given kept t value fuel room left e, is_known rules given kept t value fuel room left e)

pub returns-clause-built : goal.returns-clause-built
returns-clause-built c = λ rules given kept given' kept' t value fuel room left more wider e.
    same_trees rules given kept t value fuel room left e given' kept' more wider
