-- Rules whose right sides may be put into a table of terms.
use Rattle.std.specs.Prelude.{List, All}
use Rattle.symbol_pool.specs.Pool.{Named}
use Rattle.rewrite_model.specs.Rule.{Rule}
use Rattle.run_checks.specs.Instances.{MayBePut}

abbrev pub ArePut : List Named → List Rule → Type 0
ArePut names rules = All (λ (r : Rule). MayBePut names r.vars r.right) rules
