-- A seat whose collection stores words.
use Rattle.std.specs.Prelude.{◌≡◌, ◌≢◌, ℕ, ◌<◌, nat_lt, Bool, true, false, List, get_or}
use Rattle.atomic_table.specs.declared.shared.Seat.{Seat}
use Rattle.store_model.specs.declared.view.Sizes.{Sizes}
use Rattle.store_model.specs.declared.view.Place.{Place}
use Rattle.store_model.specs.declared.view.Place.TheVariants.{Base, FreeCount, InUse, FreePlace, Bucket, Next}
use Rattle.store_model.specs.Machine.{Each}
use Rattle.store_model.specs.Steps.{stores}
use Rattle.store_model.specs.ByView.{StoresNext}
use Rattle.store_model.specs.Shown.{in_table}
use Rattle.node_rows.specs.declared.view.NodeView.{NodeView}
use Rattle.node_rows.specs.Collecting.{HasSeen, word_seen}
use Rattle.row_sweep.specs.declared.sweep.Sweep.{Sweep}
use Rattle.row_sweep.specs.Gathered.{sizes_of, loads_of, IsAlone, StaysSeat}
use Rattle.row_sweep.specs.declared.turns.Order.{Order}
use Rattle.row_sweep.specs.Turns.{row_in_turn}

-- the words, as a collection has stored them, or else loaded them
abbrev pub seen_of : Seat (Unit {0}) NodeView → Place → ℕ
seen_of seat = word_seen seat.me.0.store

-- Seat i, one of n, is in exclusive access, and its collection has loaded all words and may store.
pub record Stores (c : Sweep) (seat : Seat (Unit {0}) NodeView) (i n : ℕ) : Type 0 where
  pub alone : IsAlone c.store.now seat i n
  pub may : StoresNext (sizes_of c) seat.me.0.store.call
  pub inside : Each (λ x. in_table (sizes_of c) x.0 ≡ true) (stores seat.me.0.store.call)

-- the same seat, which has stored more
pub record StoresMore (a : Seat (Unit {0}) NodeView) (i n : ℕ) (b : Seat (Unit {0}) NodeView)
    (j m : ℕ) : Type 0 where
  pub stays : StaysSeat a i n b j m
  pub loads : loads_of b ≡ loads_of a
  pub seen : (p : Place) → HasSeen a.me.0.store p → HasSeen b.me.0.store p

-- the next words of rows, the heads of the first u buckets, and the free places
abbrev pub is_next : Place → Bool
is_next (Next r) = true
is_next p = false

abbrev pub is_head : ℕ → Place → Bool
is_head u (Bucket b) = nat_lt b u
is_head u p = false

abbrev pub is_place : Place → Bool
is_place (FreePlace i) = true
is_place p = false

-- the free count, the buckets in use, and the base
abbrev pub is_number : Place → Bool
is_number Base = true
is_number FreeCount = true
is_number InUse = true
is_number p = false

-- the first k free places hold, each once, the rows that aren't marked, of those that come in the
-- first n turns
pub record ArePlaced (place : ℕ → ℕ) (marks : List Bool) (z : Sizes) (o : Order)
    (n k : ℕ) : Type 0 where
  pub below : (i : ℕ) → i < k → place i < z.rows
  pub turn : (i : ℕ) → i < k → row_in_turn z o (place i) < n
  pub free : (i : ℕ) → i < k → get_or marks (place i) false ≡ false
  pub differ : (i j : ℕ) → i < j → j < k → place i ≢ place j
  pub all : (r : ℕ) → r < z.rows → row_in_turn z o r < n → get_or marks r false ≡ false
      → (i : ℕ) × (i < k) × (place i ≡ r)
