-- What a collection has loaded.
use Rattle.std.specs.Prelude.{◌≡◌, ℕ, ◌+◌, ◌<◌, ◌≤◌, Some, List, ◌∷◌}
use Rattle.store_model.specs.declared.view.Sizes.{Sizes}
use Rattle.store_model.specs.declared.view.Place.{Place}
use Rattle.store_model.specs.declared.view.Place.TheVariants.{Base, FreeCount, Claim, InUse, FreePlace, Bucket, RowWord, Birth, Next, RootCount, Root}
use Rattle.store_model.specs.Machine.{State, widest}
use Rattle.store_model.specs.StoreHolds.{StoreHolds}
use Rattle.store_model.specs.Steps.{value_at}
use Rattle.store_model.specs.ByView.{IsLoaded}
use Rattle.node_rows.specs.Collecting.{or_zero}

-- a collection loads the base, the claim and the free count first, and then other words
abbrev pub begun : (base claim count : ℕ) → List (Place × ℕ) → List (Place × ℕ)
begun base claim count ls = (Base, base) ∷ (Claim, claim) ∷ (FreeCount, count) ∷ ls

-- what was loaded from a place first was so before
abbrev pub Extends : List (Place × ℕ) → List (Place × ℕ) → Type 0
Extends ls ms = (p : Place) (n : ℕ) → value_at p ls ≡ Some n → value_at p ms ≡ Some n

-- the word at p, as it was loaded, or 0 where it wasn't
abbrev pub found : List (Place × ℕ) → Place → ℕ
found ls p = or_zero (value_at p ls)

-- all words of row r were loaded
pub record HasRow (z : Sizes) (ls : List (Place × ℕ)) (r : ℕ) : Type 0 where
  pub words : (k : ℕ) → k < widest z + 2 → IsLoaded (RowWord r k) ls
  pub birth : IsLoaded (Birth r) ls
  pub next : IsLoaded (Next r) ls

-- the protected rows of seat j were loaded
pub record HasRoots (ls : List (Place × ℕ)) (j : ℕ) : Type 0 where
  pub count : ℕ
  pub loaded : value_at (RootCount j) ls ≡ Some count
  pub roots : (k : ℕ) → k < count → IsLoaded (Root j k) ls

-- the number of buckets in use, the free places that count, and the buckets were loaded
pub record HasLists (z : Sizes) (count : ℕ) (ls : List (Place × ℕ)) : Type 0 where
  pub in_use : IsLoaded InUse ls
  pub places : (i : ℕ) → i < count → IsLoaded (FreePlace i) ls
  pub buckets : (b : ℕ) → b < z.buckets → IsLoaded (Bucket b) ls

-- in a store of these sizes no row counts more arguments than it has room for
abbrev pub FitsRows : Sizes → Type 0
FitsRows z = (s : State) → StoreHolds z s → (r : ℕ) → s.words (RowWord r 1) ≤ widest z
