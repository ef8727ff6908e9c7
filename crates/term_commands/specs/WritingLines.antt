-- One line behind others.
use Rattle.std.specs.Prelude.{◌≡◌, ℕ, List, ◌++◌, codes, true, false, Option, Some, None}
use Rattle.term_model.specs.Tree.{Tree, nodes}
use Rattle.symbol_pool.specs.Pool.{Named}
use Rattle.tree_text.specs.Canonical.{canonical}
use Rattle.term_commands.specs.Unpacking.{is_too_large}

-- The line of a term was put behind the text, where so many nodes were written before: the term has
-- these many nodes, or it is too large.
abbrev pub WritesLine : List Named → Tree → ℕ → List ℕ → List ℕ → Option ℕ → Type 0
WritesLine names t written old new (Some count) =
    (is_too_large written t ≡ false) × (count ≡ nodes t) × (new ≡ old ++ canonical names t ++ codes "\n")
WritesLine names t written old new None = (is_too_large written t ≡ true) × (new ≡ old ++ codes "too large\n")
