-- The rows that a collection reaches, which it marks.
use Rattle.std.specs.Prelude.{◌≡◌, ℕ, zero, suc, ◌+◌, ◌<◌, Bool, false, if◌then◌else◌, List, [], ◌∷◌, ◌++◌, length, get_or}
use Rattle.term_model.specs.declared.Row.{Row}
use Rattle.store_model.specs.declared.view.Place.{Place}
use Rattle.store_model.specs.declared.view.Place.TheVariants.{RowWord, RootCount, Root}
use Rattle.store_model.specs.Steps.{ReachesByWords}
use Rattle.store_model.specs.Marks.{IsMarked}

abbrev pub row_of : ℕ → Row
row_of r = record { 0 = r }

-- the first n arguments of row r, by the words
abbrev pub arguments_of : (Place → ℕ) → (r n : ℕ) → List Row
arguments_of w r zero = []
arguments_of w r (suc n) = arguments_of w r n ++ row_of (w (RowWord r (suc (suc n)))) ∷ []

-- all of them
abbrev pub children_of : (Place → ℕ) → Row → List Row
children_of w r = arguments_of w r.0 (w (RowWord r.0 1))

-- Only rows that are reached are marked: among them the protected rows of the first j seats, and
-- the first k of seat j; and with a row its arguments.
pub record MarksTo (w : Place → ℕ) (rows j k : ℕ) (marks : List Bool) : Type 0 where
  pub size : length marks ≡ rows
  pub only : (r : ℕ) → IsMarked marks r → ReachesByWords w r
  pub before : (i q : ℕ) → i < j → q < w (RootCount i) → IsMarked marks (w (Root i q))
  pub here : (q : ℕ) → q < k → IsMarked marks (w (Root j q))
  pub closed : (r q : ℕ) → IsMarked marks r → q < w (RowWord r 1)
      → IsMarked marks (w (RowWord r (suc (suc q))))

-- how many of the first n rows are marked
abbrev pub marked_below : List Bool → ℕ → ℕ
marked_below marks zero = 0
marked_below marks (suc n) = marked_below marks n + (if get_or marks n false then 1 else 0)
