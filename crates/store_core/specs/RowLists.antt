-- Lists of rows in the words of a store, each with its count.
use Rattle.std.specs.Prelude.{◌≡◌, ℕ, suc, ◌<◌, ◌≤◌, List, length, get_or}
use Rattle.store_model.specs.declared.view.Place.{Place}
use Rattle.store_model.specs.declared.view.Place.TheVariants.{FreeCount, FreePlace, RowWord, RootCount, Root}
use Rattle.store_model.specs.declared.view.Sizes.{Sizes}
use Rattle.store_core.specs.declared.machine.row_lists.RowList.{RowList}
use Rattle.store_core.specs.declared.machine.row_lists.RowList.TheVariants.{Free, Protected, Arguments}

-- where the count of a list stands, and its k-th row
abbrev pub count_place : RowList → Place
count_place Free = FreeCount
count_place (Protected j) = RootCount j
count_place (Arguments r) = RowWord r 1

abbrev pub item_place : RowList → ℕ → Place
item_place Free k = FreePlace k
item_place (Protected j) k = Root j k
item_place (Arguments r) k = RowWord r (suc (suc k))

-- xs are the first n values of f, all below the bound
pub record AreListed (f : ℕ → ℕ) (bound n : ℕ) (xs : List ℕ) : Type 0 where
  pub count : length xs ≡ n
  pub each : (k : ℕ) → k < n → get_or xs k 0 ≡ f k
  pub below : (k : ℕ) → k < n → f k < bound

-- these are the rows of the list
abbrev pub IsList : Sizes → (Place → ℕ) → RowList → List ℕ → Type 0
IsList z w l xs = AreListed (λ k. w (item_place l k)) z.rows (w (count_place l)) xs

-- a list has what isn't a row of the store
pub record IsPast (z : Sizes) (w : Place → ℕ) (l : RowList) : Type 0 where
  pub at : ℕ
  pub within : at < w (count_place l)
  pub past : z.rows ≤ w (item_place l at)
