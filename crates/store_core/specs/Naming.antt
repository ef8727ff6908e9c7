-- The rows that a seat may name, marked one after another.
use Rattle.std.specs.Prelude.{◌≡◌, ◌⊎◌, ℕ, suc, ◌+◌, ◌*◌, ◌<◌, ◌≤◌, Bool, true, false, List, [], ◌∷◌, length, get_or}
use Rattle.store_model.specs.declared.view.Place.{Place}
use Rattle.store_model.specs.declared.view.Place.TheVariants.{RowWord}
use Rattle.store_model.specs.declared.view.View.{View}
use Rattle.store_model.specs.Machine.{In, MayName}

abbrev pub IsMarked : List Bool → ℕ → Type 0
IsMarked marks r = get_or marks r false ≡ true

-- how many rows aren't marked
abbrev pub unmarked : List Bool → ℕ
unmarked [] = 0
unmarked (true ∷ marks) = unmarked marks
unmarked (false ∷ marks) = suc (unmarked marks)

-- so many arguments of row r are marked
abbrev pub AreMarked : (Place → ℕ) → List Bool → ℕ → ℕ → Type 0
AreMarked w marks r n = (k : ℕ) → k < n → IsMarked marks (w (RowWord r (suc (suc k))))

-- Marked rows may be named. The arguments of a marked row are marked, but of those that wait, and
-- of those that are looked at.
pub record Halfway (w : Place → ℕ) (i : ℕ) (v : View) (marks : List Bool)
    (waiting here : List ℕ) : Type 0 where
  pub sound : (r : ℕ) → IsMarked marks r → MayName w i v r
  pub waits : (r : ℕ) → In r waiting → IsMarked marks r
  pub closed : (r : ℕ) → IsMarked marks r → (In r waiting ⊎ In r here)
      ⊎ AreMarked w marks r (w (RowWord r 1))

-- more rows are marked; each that is new waits, and with two for each row that isn't marked there
-- are no more
pub record Visits (had has : List Bool) (waited waits : List ℕ) : Type 0 where
  pub kept : (r : ℕ) → IsMarked had r → IsMarked has r
  pub less : length waits + 2 * unmarked has ≤ length waited + 2 * unmarked had
