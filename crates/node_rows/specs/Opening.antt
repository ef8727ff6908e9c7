-- A new store and its passes.
use Rattle.std.specs.Prelude.{◌≡◌, ℕ, ◌+◌, ◌*◌, ◌<◌, List, [], length, slice_index}
use Rattle.atomic_table.specs.Seated.{TableId}
use Rattle.atomic_table.specs.declared.shared.Seat.{Seat}
use Rattle.store_model.specs.declared.view.Sizes.{Sizes}
use Rattle.store_model.specs.declared.view.Place.TheVariants.{Base, FreeCount, Claim, InUse, FreePlace, Bucket, RowWord, RootCount, Root}
use Rattle.store_model.specs.Shown.{shown, total}
use Rattle.node_rows.specs.declared.view.NodeView.{NodeView}
use Rattle.node_rows.specs.Shown.{seat_view}

-- the words of a new store, with the first k free places
pub record UpTo (z : Sizes) (words : List ℕ) (k : ℕ) : Type 0 where
  pub long : length words ≡ total z
  pub zeros : (j : ℕ) → j < 1 + 2 * z.seats → slice_index words j ≡ 0
  pub base : shown z words Base ≡ z.first
  pub count : shown z words FreeCount ≡ z.rows
  pub claim : shown z words Claim ≡ 0
  pub in_use : shown z words InUse ≡ z.start
  pub place : (i : ℕ) → i < k → shown z words (FreePlace i) ≡ i
  pub bucket : (b : ℕ) → shown z words (Bucket b) ≡ 0
  pub count_words : (r : ℕ) → shown z words (RowWord r 1) ≡ 0
  pub root_counts : (j : ℕ) → shown z words (RootCount j) ≡ 0
  pub roots : (j i : ℕ) → shown z words (Root j i) ≡ 0

-- seat j of a new store
pub record IsNew (t : TableId) (z : Sizes) (j : ℕ) (seat : Seat (Unit {0}) NodeView)
    (number seats : ℕ) : Type 0 where
  pub table : seat.table_id ≡ t
  pub place : number ≡ j
  pub count : seats ≡ z.seats
  pub none : seat.me.1 ≡ []
  pub view : seat.me.0 ≡ seat_view z j seat.me.0.made

-- the first seat, after k seats were split off
pub record IsFirst (k : ℕ) (seat : Seat (Unit {0}) NodeView) : Type 0 where
  pub id : seat.id ≡ 0
  pub made : seat.me.0.made ≡ k
