-- What a seat's own entries tell of the rows that it may name is so: the trees that they tell are
-- those of the store.
use Rattle.std.specs.Prelude.{◌≡◌, ℕ, ◌<◌, true, List}
use Rattle.term_model.specs.Tree.{Tree}
use Rattle.term_model.specs.Laws.{IsSubtree}
use Rattle.history_core.specs.declared.entry.Entry.{Entry}
use Rattle.history_core.specs.TermSet.{Names, Holds, empty}
use Rattle.history_core.specs.Entry.{is_collect, key}
use Rattle.history_core.specs.Chronicle.{chronicle, set_of, IsNoted}
use Rattle.history_core.specs.Told as history
use Rattle.store_model.specs.Calls.{View}
use Rattle.store_model.specs.Words.{Place}
use Rattle.store_model.specs.Machine.{Sizes, State, Each, MayName, protected_in}
use Rattle.store_model.specs.Invariant.{listed}
use Rattle.store_model.specs.Seats.{Where, wanted}
use Rattle.store_model.specs.Steps.{IsAtRest}
use Rattle.store_model.specs.StoreSteps.{IsInPlace, after, Leads}
use Rattle.store_model.specs.StoreHolds.{StoreHolds}
use Rattle.store_model.specs.Runs.{AreSizes, StartsWith, at_start}
use Rattle.store_model.specs.Laws.{held_by}
use Rattle.store_model.specs.declared.step.StoreStep.{StoreStep}
use Rattle.store_model.specs.Told.{told, all_roots}

-- The row is held under the tree that these trees of rows have for it, and so is each row of a tree
-- inside that.
pub record IsRecalled (held : Names) (tree : ℕ → Tree) (r : ℕ) : Type 0 where
  pub own : Holds held r (tree r)
  pub inside : (q : ℕ) (u : Tree) → Holds held q u → IsSubtree u (tree r) → tree q ≡ u

-- the pairs that the entries of all seats leave
abbrev pub held_in : List (List Entry) → Names
held_in lists = (set_of (chronicle lists)).held

-- no collection is as young as this base
abbrev pub NoneSince : List (List Entry) → ℕ → Type 0
NoneSince lists base = (y : ℕ × Entry) → IsNoted lists y → is_collect y.1 ≡ true → key y.1 < base

-- Of the rows that a seat may name, by the trees that its own entries tell of rows.
pub record RowsRecalled (lists : List (List Entry)) (tree : ℕ → Tree) (v : View) : Type 0 where
  -- those that it protects
  pub protected : Each (IsRecalled (held_in lists) tree) (protected_in v)
  -- those that it got or kept, until another collects
  pub got : NoneSince lists v.base → Each (IsRecalled (held_in lists) tree) v.got
  -- the arguments of its creation
  pub wants : Where (wanted v.call) (λ c. Each (IsRecalled (held_in lists) tree) c.arguments)

-- The trees that a seat's entries name in the chronicle are, in order, those that they tell; and so
-- are those of its Roots.
pub record EntriesRecalled (lists : List (List Entry)) (i : ℕ) (es : List Entry) : Type 0 where
  pub named : history.told history.named i empty (chronicle lists) ≡ (told es).built
  pub rooted : history.told history.rooted_trees i empty (chronicle lists) ≡ all_roots es

pub record SeatRecalls (lists : List (List Entry)) (i : ℕ) (v : View) : Type 0 where
  pub rows : RowsRecalled lists (told v.entries).tree v
  pub entries : EntriesRecalled lists i v.entries

-- it is so for each seat
abbrev pub Recalls : Sizes → (ℕ → View) → Type 0
Recalls z view =
    (i : ℕ) → i < z.seats → SeatRecalls (listed z.seats (λ j. (view j).entries)) i (view i)

-- A new store recalls, each step keeps it, and so it is after every list of steps.
abbrev pub StartRecalls : Type 0
StartRecalls = (z : Sizes) (w : Place → ℕ) → Recalls z (at_start z w).view

abbrev pub StepsRecall : Type 0
StepsRecall = (z : Sizes) (s : State) (i : ℕ) (x : StoreStep) → StoreHolds z s → IsInPlace z s i x
    → Recalls z s.view → Recalls z (after z s i x).view

abbrev pub RunsRecall : Type 0
RunsRecall = (z : Sizes) (w : Place → ℕ) (steps : List (ℕ × StoreStep)) (s : State) → AreSizes z
    → StartsWith z w → Leads z (at_start z w) steps s → Recalls z s.view

-- Each row that a seat at rest may name is held under the tree that its own entries tell.
abbrev pub NamedAreRecalled : Type 0
NamedAreRecalled = (z : Sizes) (s : State) (i r : ℕ) → StoreHolds z s → Recalls z s.view
    → i < z.seats → IsAtRest (s.view i)
    → MayName s.words i (s.view i) r → Holds (held_by z s.view) r ((told (s.view i).entries).tree r)
