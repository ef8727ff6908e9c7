-- The rows of places.
use Rattle.std.specs.Prelude.{◌≡◌, ℕ, ◌+◌, ◌<◌, ◌≤◌, ◌⊎◌, List, length, map, slice_index_or}
use Rattle.term_model.specs.Tree.{Tree}
use Rattle.term_model.specs.declared.Row.{Row}
use Rattle.terms_api.specs.Terms.{Store, IsHeld, tree_at}
use Rattle.rule_automaton.specs.Places.{HasKids}

abbrev pub row_at : List Row → ℕ → Row
row_at rows place = slice_index_or rows place (record { 0 = 0 })

-- the rows of some places in order
abbrev pub rows_at : List Row → List ℕ → List Row
rows_at rows places = map (row_at rows) places

-- The row of a place is held and has the place's tree.
pub record IsFull (s : Store) (at : ℕ → Tree) (rows : List Row) (place : ℕ) : Type 0 where
  pub within : place < length rows
  pub held : IsHeld s (row_at rows place)
  pub tree : tree_at s (row_at rows place) ≡ at place

-- So many arguments of a row's tree are put at the places from a base on, and no other place
-- changes.
pub record Fills (s : Store) (row : Row) (base count : ℕ) (old new : List Row) : Type 0 where
  pub full : (at : ℕ → Tree) (place : ℕ) → HasKids at place count base → at place ≡ tree_at s row
      → (q : ℕ) → IsFull s at old q ⊎ ((base ≤ q) × (q < base + count)) → IsFull s at new q
  pub size : length new ≡ length old
