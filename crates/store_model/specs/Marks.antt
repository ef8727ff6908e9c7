-- Marks of rows: of those in free places, and of those that are reached.
use Rattle.std.specs.Prelude.{◌≡◌, ◌≢◌, ◌⊎◌, ◌↔◌, ℕ, suc, ◌+◌, ◌<◌, ◌≤◌, Bool, true, false, List, [], ◌∷◌, length, get_or, Contains}
use Rattle.store_model.specs.Words.{Place, FreeCount, FreePlace, RowWord, RootCount, Root}
use Rattle.store_model.specs.Machine.{Sizes}
use Rattle.store_model.specs.Meaning.{RowsApart}
use Rattle.store_model.specs.Steps.{ReachesByWords, is_free}

abbrev pub IsMarked : List Bool → ℕ → Type 0
IsMarked marks r = get_or marks r false ≡ true

-- how many rows aren't marked
abbrev pub unmarked : List Bool → ℕ
unmarked [] = 0
unmarked (true ∷ marks) = unmarked marks
unmarked (false ∷ marks) = unmarked marks + 1

-- the rows in the first places are marked, and differ
pub record MarksPlaces (place : ℕ → ℕ) (count rows : ℕ) (marks : List Bool) : Type 0 where
  pub size : length marks ≡ rows
  pub marked : (r : ℕ) → r < rows → get_or marks r false ≡ is_free place count r
  pub differ : (i j : ℕ) → i < count → j < count → place i ≡ place j → i ≡ j

-- two of the first places hold one row
pub record Repeats (place : ℕ → ℕ) (count : ℕ) : Type 0 where
  pub first : ℕ
  pub second : ℕ
  pub in_order : first < second
  pub within : second < count
  pub same : place first ≡ place second

-- the free places hold different rows of the store, which are marked
pub record MarksFree (z : Sizes) (w : Place → ℕ) (marks : List Bool) : Type 0 where
  pub few : w FreeCount ≤ z.rows
  pub there : (i : ℕ) → i < w FreeCount → w (FreePlace i) < z.rows
  pub places : MarksPlaces (λ i. w (FreePlace i)) (w FreeCount) z.rows marks

-- they don't, whatever is live
abbrev pub AreNotApart : Sizes → (Place → ℕ) → Type 0
AreNotApart z w = (live : ℕ → Bool) → RowsApart z (w FreeCount) 0 (λ i. w (FreePlace i)) live → ⊥

-- the rows f 0, .. f (n - 1) are marked beside those that were
pub record Marks (f : ℕ → ℕ) (n : ℕ) (had has : List Bool) : Type 0 where
  pub size : length has ≡ length had
  pub kept : (r : ℕ) → IsMarked had r → IsMarked has r
  pub all : (k : ℕ) → k < n → IsMarked has (f k)
  pub only : (r : ℕ) → IsMarked has r → IsMarked had r ⊎ ((k : ℕ) × (k < n) × (f k ≡ r))

-- and those that weren't now wait
pub record Adds (f : ℕ → ℕ) (n : ℕ) (had : List Bool) (waits : List ℕ) (has : List Bool)
    (now : List ℕ) : Type 0 where
  pub marks : Marks f n had has
  pub waiting_on : (r : ℕ) → Contains waits r → Contains now r
  pub waiting : (r : ℕ) → IsMarked has r → IsMarked had r ⊎ Contains now r
  pub from : (r : ℕ) → Contains now r → Contains waits r ⊎ IsMarked has r
  pub left : unmarked has + length now ≡ unmarked had + length waits

-- Only rows that are reached are marked, and among them the protected rows of the first seats. The
-- arguments of a marked row are marked, or it waits.
pub record Halfway (z : Sizes) (w : Place → ℕ) (seats : ℕ) (marks : List Bool)
    (waiting : List ℕ) : Type 0 where
  pub size : length marks ≡ z.rows
  pub only : (r : ℕ) → IsMarked marks r → ReachesByWords w r
  pub waits : (r : ℕ) → Contains waiting r → IsMarked marks r
  pub roots : (j k : ℕ) → j < seats → k < w (RootCount j) → IsMarked marks (w (Root j k))
  pub closed : (r : ℕ) → IsMarked marks r → Contains waiting r
      ⊎ ((k : ℕ) → k < w (RowWord r 1) → IsMarked marks (w (RowWord r (suc (suc k)))))

-- exactly the rows that are reached are marked
pub record MarksReached (w : Place → ℕ) (rows : ℕ) (marks : List Bool) : Type 0 where
  pub size : length marks ≡ rows
  pub marked : (r : ℕ) → IsMarked marks r ↔ ReachesByWords w r

-- what isn't a row of the store is reached
pub record ReachesPast (w : Place → ℕ) (rows : ℕ) : Type 0 where
  pub row : ℕ
  pub reached : ReachesByWords w row
  pub past : rows ≤ row

-- each of these rows is marked on one side alone
abbrev pub AreOpposite : List Bool → List Bool → Type 0
AreOpposite live free = (r : ℕ) → r < length live → get_or live r false ≢ get_or free r false
