-- At most two arguments, filled up to two.
use Rattle.std.specs.Prelude.{ℕ, ◌+◌, ◌*◌, ◌^◌, List, [], ◌∷◌, slice_index_or}
use Rattle.term_model.specs.declared.Row.{Row}

-- what stands in the place of an argument that lacks
abbrev pub no_row : Row
no_row = record { 0 = 0 }

-- the rows, at least two
abbrev pub filled : List Row → List Row
filled [] = no_row ∷ no_row ∷ []
filled (a ∷ []) = a ∷ no_row ∷ []
filled (a ∷ b ∷ rows) = a ∷ b ∷ rows

-- two rows as one word
abbrev pub pair_word : List Row → ℕ
pair_word pair = (slice_index_or pair 0 no_row).0 + (slice_index_or pair 1 no_row).0 * 2 ^ 32
