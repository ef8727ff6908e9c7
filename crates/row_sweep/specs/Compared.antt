-- Which words the stores of a collection change, as it notes this before it stores any.
use Rattle.std.specs.Prelude.{◌≡◌, ℕ, zero, suc, ◌+◌, ◌<◌, ◌≤◌, ◌==◌, Bool, false, if◌then◌else◌, List, get_or}
use Rattle.atomic_table.specs.declared.shared.Seat.{Seat}
use Rattle.store_model.specs.declared.view.Sizes.{Sizes}
use Rattle.store_model.specs.declared.view.Place.{Place}
use Rattle.store_model.specs.declared.view.Place.TheVariants.{FreePlace, Bucket, Next}
use Rattle.store_model.specs.Marks.{IsMarked}
use Rattle.node_rows.specs.declared.view.NodeView.{NodeView}
use Rattle.row_sweep.specs.declared.sweep.Sweep.{Sweep}
use Rattle.row_sweep.specs.Gathered.{sizes_of, words_of}
use Rattle.row_sweep.specs.declared.turns.Order.{Order}
use Rattle.row_sweep.specs.Turns.{order_for, row_in_turn}
use Rattle.row_sweep.specs.Collected.{IsWorkedOut}

-- what a word is after a collection: a cell of 4294967295 says that it stays, any other one is the
-- new word
abbrev pub told_by : (word cell : ℕ) → ℕ
told_by word cell = if cell == 4294967295 then word else cell

-- how many of the rows that come in the first n turns aren't marked: the row of the next turn, if
-- it isn't marked, comes to this free place
abbrev pub unmarked_before : List Bool → Sizes → Order → ℕ → ℕ
unmarked_before marks z o zero = 0
unmarked_before marks z o (suc n) =
    unmarked_before marks z o n + (if get_or marks (row_in_turn z o n) false then 0 else 1)

-- the free place to which a row comes that isn't marked
abbrev pub place_for : List Bool → Sizes → Order → ℕ → ℕ
place_for marks z o r = unmarked_before marks z o (row_in_turn z o r)

-- The cells of the rows that come in the first n turns: that of a marked row tells its new next
-- word, and where that of another row is 4294967295, its free place counts and holds it already.
-- The other cells are as before.
pub record Notes (w : Place → ℕ) (count : ℕ) (marks : List Bool) (nexts cells : List ℕ) (z : Sizes)
    (o : Order) (n : ℕ) : Type 0 where
  pub next : (r : ℕ) → r < z.rows → row_in_turn z o r < n → IsMarked marks r
      → told_by (w (Next r)) (get_or cells r 0) ≡ get_or nexts r 0
  pub place : (r : ℕ) → r < z.rows → row_in_turn z o r < n → get_or marks r false ≡ false
      → get_or cells r 0 ≡ 4294967295
      → (place_for marks z o r < count) × (w (FreePlace (place_for marks z o r)) ≡ r)
  pub rest : (r : ℕ) → n ≤ row_in_turn z o r → get_or cells r 0 ≡ get_or nexts r 0

-- The new chains and the counts are worked out, and the cells tell which words they change.
pub record IsCompared (c : Sweep) (seat : Seat (Unit {0}) NodeView) (i n : ℕ) (marks : List Bool)
    (cells heads : List ℕ) (live buckets : ℕ) : Type 0 where
  pub new_nexts : List ℕ
  pub new_heads : List ℕ
  pub out : IsWorkedOut c seat i n marks new_nexts new_heads live buckets
  pub notes : Notes (words_of seat) c.count marks new_nexts cells (sizes_of c)
      (order_for (sizes_of c) live) (sizes_of c).rows
  pub heads_are : (b : ℕ) → b < buckets → told_by (words_of seat (Bucket b)) (get_or heads b 0)
      ≡ get_or new_heads b 0
