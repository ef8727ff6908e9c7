-- What marking from names adds, and the names that are marked.
use Rattle.std.specs.Prelude.{◌≡◌, ◌⊎◌, ℕ, ◌<◌, suc, Bool, true, false, List, [], ◌∷◌, ◌++◌, length, Contains}
use Rattle.term_model.specs.declared.Row.{Row}
use Rattle.mark_phase.specs.Reachable.{Reaches, IsMarked, IsClosed}
use Rattle.history_core.specs.Slots.{Slots, row, args_of, slot_at}

-- the names of all lists
abbrev pub joined : List (List ℕ) → List ℕ
joined [] = []
joined (ns ∷ lists) = ns ++ joined lists

-- what is reached from these names is marked too, and nothing else
pub record AddsAll (children : Row → List Row) (names : List ℕ) (old new : List Bool) : Type 0 where
  pub rows : length new ≡ length old
  pub kept : (r : Row) → IsMarked old r → IsMarked new r
  pub reached : (n : ℕ) (r : Row) → Contains names n → Reaches children (row n) r → IsMarked new r
  pub only : (r : Row) → IsMarked new r → IsMarked old r
      ⊎ ((n : ℕ) × Contains names n × Reaches children (row n) r)
  pub closed : IsClosed children old → IsClosed children new

-- the names of arguments are below the bound
abbrev pub ArgsWithin : Slots → Type 0
ArgsWithin slots = (n m : ℕ) → Contains (args_of (slot_at slots n)) m → m < length slots

-- the names whose marks are set, from this name on
abbrev pub marked_names : ℕ → List Bool → List ℕ
marked_names n [] = []
marked_names n (true ∷ marks) = n ∷ marked_names (suc n) marks
marked_names n (false ∷ marks) = marked_names (suc n) marks
