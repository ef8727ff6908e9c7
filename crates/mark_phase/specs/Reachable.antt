-- What can be reached over children, and which rows are marked.
use Rattle.std.specs.Prelude.{◌≡◌, ◌⊎◌, Bool, true, false, List, Contains, length, slice_index_or}
use Rattle.term_model.specs.declared.Row.{Row}

-- the row itself, and the children of what is reached
pub data Reaches (children : Row → List Row) (root : Row) : Row → Type 0 where
  itself : Reaches children root root
  child : {r q : Row} → Reaches children root r → Contains (children r) q → Reaches children root q

abbrev pub IsMarked : List Bool → Row → Type 0
IsMarked marks r = slice_index_or marks r.0 false ≡ true

-- the children of a marked row are marked
abbrev pub IsClosed : (Row → List Row) → List Bool → Type 0
IsClosed children marks = (r q : Row) → IsMarked marks r → Contains (children r) q
    → IsMarked marks q

-- what is reached from the root is marked too, and nothing else
pub record AddsReached (children : Row → List Row) (root : Row) (old new : List Bool) : Type 0 where
  pub rows : length new ≡ length old
  pub kept : (r : Row) → IsMarked old r → IsMarked new r
  pub reached : (r : Row) → Reaches children root r → IsMarked new r
  pub only : (r : Row) → IsMarked new r → IsMarked old r ⊎ Reaches children root r
