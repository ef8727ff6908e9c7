-- A store, its passes, and what stays the same of a pass.
use Rattle.std.specs.Prelude.{◌≡◌}
use Rattle.busy_forbidden.specs.Calls.{IsSame}
use Rattle.busy_forbidden.specs.Exclusive.{IsGranted}
use Rattle.node_rows.specs.declared.store.Store.{Store}
use Rattle.node_rows.specs.declared.store.Pass.{Pass}
use Rattle.node_rows.specs.Passes.{IsStore, IsPass, IsReady}
use Rattle.node_rows.specs.Told.{view_of}

-- a store: its sizes are within their limits, its table was told them, and the table has room for
-- all its words
abbrev pub IsOpen : Store → Type 0
IsOpen s = IsStore s.table.shared.table_id s.table.shared.key s.sizes

-- a pass of this store, which holds no slot
abbrev pub IsSeated : Store → Pass → Type 0
IsSeated s p = IsPass s.table.shared.table_id s.sizes p.seat.seat p.seat.seats

-- it is a store, and a pass of it
pub record IsPassOf (s : Store) (p : Pass) : Type 0 where
  pub store : IsOpen s
  pub pass : IsSeated s p

-- the same pass: the same seat of the same table with the same slots, under the same number
abbrev pub IsSamePass : Pass → Pass → Type 0
IsSamePass old new = IsSame old.seat.seat new.seat.seat × (new.seat.number ≡ old.seat.number)

-- it is in exclusive access
abbrev pub IsExclusive : Pass → Type 0
IsExclusive p = IsGranted (view_of p).lock p.seat.number p.seat.seats

-- it is in an access of the store, has loaded what an access begins with, and has nothing under way
abbrev pub IsPrepared : Store → Pass → Type 0
IsPrepared s p = IsReady s.sizes (view_of p).store p.base p.in_use
