-- Marking, halfway: some marked rows wait for their children to be marked.
use Rattle.std.specs.Prelude.{◌≡◌, ◌⊎◌, ℕ, ◌+◌, Bool, true, false, List, [], ◌∷◌, ◌++◌, Contains, length}
use Rattle.term_model.specs.declared.Row.{Row}
use Rattle.mark_phase.specs.Reachable.{Reaches, IsMarked}

-- how many rows are marked
abbrev pub marked_count : List Bool → ℕ
marked_count [] = 0
marked_count (true ∷ marks) = marked_count marks + 1
marked_count (false ∷ marks) = marked_count marks

-- the rows that wait, with one more unless it was marked
abbrev pub with_waiting : Bool → Row → List Row → List Row
with_waiting true r rows = rows
with_waiting false r rows = rows ++ r ∷ []

-- Every marked row has its children marked, or it waits, or it is the current row and
-- the child is one of those left.
pub record Halfway (children : Row → List Row) (root : Row) (old marks : List Bool)
    (pending : List Row) (current : Row) (left : List Row) : Type 0 where
  pub rows : length marks ≡ length old
  pub kept : (r : Row) → IsMarked old r → IsMarked marks r
  pub only : (r : Row) → IsMarked marks r → IsMarked old r ⊎ Reaches children root r
  pub waiting : (r : Row) → Contains pending r → Reaches children root r
  pub row : Reaches children root current
  pub ahead : (q : Row) → Contains left q → Reaches children root q
  pub begun : IsMarked marks root ⊎ Contains left root
  pub closed : (r q : Row) → IsMarked marks r → Contains (children r) q → IsMarked marks q
      ⊎ (Contains pending r ⊎ ((r ≡ current) × Contains left q))
