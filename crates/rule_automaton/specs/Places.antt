-- Places: numbers of the positions of left sides, by which a tree is read.
use Rattle.std.specs.Prelude.{◌≡◌, ℕ, ◌+◌, ◌^◌, ◌<◌, ◌≤◌, ◌&&◌, ◌==◌, Bool, Option, Some, slice_index_or}
use Rattle.term_model.specs.Tree.{Tree, Leaf, arguments}

abbrev pub same_key : ℕ × ℕ → ℕ × ℕ → Bool
same_key k l = (k.0 == l.0) && (k.1 == l.1)

-- An argument of a tree, the first being 0; a variable where there is none.
abbrev pub argument : Tree → ℕ → Tree
argument t j = slice_index_or (arguments t) j (Leaf 0)

-- So many arguments of the tree at a place are the trees at the places from `base` on.
pub record HasKids (at : ℕ → Tree) (place count base : ℕ) : Type 0 where
  pub kid : (j : ℕ) → j < count → at (base + j) ≡ argument (at place) j

-- The place of the first of so many arguments of a node at a place, and how many places there are.
pub record Tabled : Type 0 where
  pub base_of : ℕ → ℕ → Option ℕ
  pub places : ℕ

-- The trees at all places, the root's being this one.
pub record Reading (base_of : ℕ → ℕ → Option ℕ) (t : Tree) : Type 0 where
  pub at : ℕ → Tree
  pub root : at 0 ≡ t
  pub kids : (place count base : ℕ) → base_of place count ≡ Some base → HasKids at place count base

-- Every tree can be read by the places, and arguments have greater places than their node.
pub record IsTable (t : Tabled) : Type 0 where
  pub some : 0 < t.places
  pub small : t.places < 2 ^ 32
  pub within : (place count base : ℕ) → t.base_of place count ≡ Some base → (place < base)
      × (base + count ≤ t.places)
  pub read : (tree : Tree) → Reading t.base_of tree

-- No place is lost.
pub record Keeps (old new : Tabled) : Type 0 where
  pub bases : (place count base : ℕ) → old.base_of place count ≡ Some base
      → new.base_of place count ≡ Some base
  pub places : old.places ≤ new.places
