-- Rows as callers have them, and as the words of a store have them.
use Rattle.std.specs.Prelude.{ℕ, List, map}
use Rattle.term_model.specs.declared.Row.{Row}

-- the numbers of these rows, in order
abbrev pub names : List Row → List ℕ
names rows = map (λ r. r.0) rows
