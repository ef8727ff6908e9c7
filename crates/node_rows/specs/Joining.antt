-- Seats that are joined into others, and the rule of the running store.
use Rattle.std.specs.Prelude.{◌≡◌, ◌≢◌, ◌⊎◌, ◌<◌, ◌≤◌, ℕ, suc, ◌==◌, if◌then◌else◌, Option, Some, None, List, [], ◌∷◌, length, map}
use mathlib.Core.Option.{some}
use lib.ListN.{get_elem?}
use Rattle.atomic_table.specs.Table.{State, Me, Step}
use Rattle.history_core.specs.declared.entry.Entry.{Entry}
use Rattle.history_core.specs.Chronicle.{chronicle, IsLegal, KeysRise}
use Rattle.busy_forbidden.specs.Shown.{nobody}
use Rattle.busy_forbidden.specs.Rules.{ShowsLock}
use Rattle.store_model.specs.declared.view.Sizes.{Sizes}
use Rattle.store_model.specs.Machine.{Each}
use Rattle.store_model.specs.Invariant.{listed, span}
use Rattle.store_model.specs.Bases.{collect_numbers, StaysBelow, IsBase}
use Rattle.store_model.specs.Recalls.{EntriesRecalled, Recalls}
use Rattle.store_model.specs.Steps.{newcomer}
use Rattle.node_rows.specs.declared.view.JoinedSeat.{JoinedSeat}
use Rattle.node_rows.specs.declared.view.NodeView.{NodeView}
use Rattle.node_rows.specs.Shown.{Shows, lock_of, store_at}
use Rattle.node_rows.specs.Crowding.{IsCrowd, Crowds, crowd_at}

abbrev pub no_sizes : Sizes
no_sizes = record { rows = 0; buckets = 0; start = 0; seats = 0; depth = 0; arity = 0; first = 0 }

-- the view of a seat that was joined into another
abbrev pub spent_view : NodeView
spent_view = record {
  lock = nobody;
  made = 0;
  sizes = no_sizes;
  store = newcomer no_sizes;
  crowd = [];
  joined = [];
}

abbrev pub number_in : Option ℕ → ℕ
number_in None = 0
number_in (Some i) = i

-- a seat's number, what it knows of the store, and its crowd
abbrev pub known_seat : NodeView → JoinedSeat
known_seat v = record { seat = number_in v.lock.number; store = v.store; crowd = v.crowd }

-- the first view, once the seat of the second was joined into its seat
abbrev pub both_views : NodeView → NodeView → NodeView
both_views v w = record v { joined = known_seat w ∷ v.joined }

abbrev pub seats_in : List JoinedSeat → List ℕ
seats_in xs = map (λ x. x.seat) xs

-- no two of them are the same
abbrev pub AreApart : List ℕ → Type 0
AreApart [] = Unit {0}
AreApart (x ∷ xs) = Each (λ y. x ≢ y) xs × AreApart xs

-- a seat that was joined into another: this is what it knew, and its view is spent
pub record IsSpent (known views : List NodeView) (x : JoinedSeat) : Type 0 where
  pub view : NodeView
  pub knew : get_elem? known x.seat ≡ some view
  pub store : view.store ≡ x.store
  pub crowd : view.crowd ≡ x.crowd
  pub spent : get_elem? views x.seat ≡ some spent_view

-- Each seat has its own view, or is spent; and a view has of each seat that was joined into its own
-- what that seat knew.
pub record Gathers (known views : List NodeView) : Type 0 where
  pub long : length views ≡ length known
  pub own : (j : ℕ) (v : NodeView) → get_elem? views j ≡ some v → (v ≡ spent_view)
      ⊎ (get_elem? known j ≡ some v)
  pub held : (j : ℕ) (v : NodeView) → get_elem? views j ≡ some v
      → Each (IsSpent known views) v.joined
  pub apart : (j : ℕ) (v : NodeView) → get_elem? views j ≡ some v → AreApart (seats_in v.joined)

-- the table with these views
abbrev pub with_views : State (Unit {0}) NodeView → List NodeView → State (Unit {0}) NodeView
with_views s views = record { words = s.words; homes = s.homes; views = views }

-- The rule. The table shows a lock, and with what all seats know, those too that were joined into
-- others, it shows a store, in which the trees that each seat's own entries tell are so, and each
-- seat has its crowd.
pub record ShowsJoined (z : Sizes) (s : State (Unit {0}) NodeView) : Type 0 where
  pub known : List NodeView
  pub joins : Gathers known s.views
  pub lock : ShowsLock lock_of z.seats s
  pub shows : Shows z (with_views s known)
  pub recalls : Recalls z (store_at z known)
  pub crowds : Crowds z (store_at z known) (crowd_at known)

-- a seat, and those that were joined into it
abbrev pub gathered : NodeView → List JoinedSeat
gathered v = known_seat v ∷ v.joined

-- the entries of seat j, if it is one of them
abbrev pub entries_at : ℕ → List JoinedSeat → List Entry
entries_at j [] = []
entries_at j (x ∷ xs) = if x.seat == j then x.store.entries else entries_at j xs

-- the view of a seat, once the seats with these views were joined into it, the last one first
abbrev pub all_views : NodeView → List NodeView → NodeView
all_views v [] = v
all_views v (w ∷ ws) = both_views (all_views v ws) w

-- the entries of each of n seats, in order
abbrev pub lists_in : ℕ → NodeView → List (List Entry)
lists_in n v = listed n (λ j. entries_at j (gathered v))

-- a base that a seat has loaded or stored, 0 where it has none: the first base, or one more than
-- the number of a collection in the lists
abbrev pub HasBase : Sizes → List (List Entry) → ℕ → Type 0
HasBase z lists b = (b ≡ 0) ⊎ IsBase z.first (collect_numbers (chronicle lists)) b

-- Of the entries of all seats: they are a legal history of one thread; the number of its c-th
-- collection is below `first` and c times what an epoch may use; bases come from collections; the
-- keys of a seat's entries rise; the trees that they name are those that they tell; and each seat's
-- crowd is as the lists tell.
pub record AllTold (z : Sizes) (lists : List (List Entry)) (xs : List JoinedSeat) : Type 0 where
  pub legal : IsLegal z.rows (chronicle lists)
  pub numbers : StaysBelow z.first (span z) 1 (collect_numbers (chronicle lists))
  pub bases : Each (λ x. HasBase z lists x.store.base) xs
  pub rises : Each (λ x. KeysRise x.store.entries) xs
  pub trees : Each (λ x. EntriesRecalled lists x.seat x.store.entries) xs
  pub crowds : Each (λ x. IsCrowd lists x.seat x.store.entries x.crowd) xs

-- Each seat of them has its own entries in the lists; and where they are all seats, all of this is
-- told.
pub record TellsAll (z : Sizes) (v : NodeView) : Type 0 where
  pub own : Each (λ x. entries_at x.seat (gathered v) ≡ x.store.entries) (gathered v)
  pub below : Each (λ x. x.seat < z.seats) (gathered v)
  pub whole : z.seats ≤ suc (length v.joined) → AllTold z (lists_in z.seats v) (gathered v)

-- a look at the table leaves the own view, and tells this of it
abbrev pub looks : Step (Unit {0}) → Me (Unit {0}) NodeView → ℕ → Me (Unit {0}) NodeView → Type 0
looks st me n me' = (me' ≡ me) × TellsAll me.0.sizes me.0
