-- A pass of the store, as its desk has it between two calls.
use Rattle.std.specs.Prelude.{◌≡◌, ◌⊎◌, ◌^◌, ◌<◌, Bool, true, false, ◌&&◌, not}
use Rattle.term_model.specs.declared.Head.{Head}
use Rattle.term_model.specs.declared.Head.TheVariants.{App, Int, Nil, Cons}
use Rattle.lock_core.specs.declared.parts.Phase.{Phase}
use Rattle.lock_core.specs.declared.parts.Phase.TheVariants.{Out, Raised, Shared, Blocked, Holder}
use Rattle.busy_forbidden.specs.Exclusive.{IsGranted}
use Rattle.store_model.specs.declared.view.Stay.{Stay}
use Rattle.store_model.specs.declared.view.Stay.TheVariants.{Away, Based, Ready, Leaving}
use Rattle.node_rows.specs.declared.view.NodeView.{NodeView}
use Rattle.node_rows.specs.declared.store.Store.{Store}
use Rattle.node_rows.specs.declared.store.Pass.{Pass}
use Rattle.node_rows.specs.Belonging.{IsPassOf}
use Rattle.node_rows.specs.Passes.{IsPass, IsOut, IsReady}
use Rattle.node_rows.specs.Told.{Tells, view_of}
use Rattle.shared_desk.specs.Held.{IsWhole}
use Rattle.shared_desk.specs.Pass.{PassView, WhichStore, WhichPass}
use Rattle.shared_desk.specs.Seen.{seen}

-- a symbol has a number of 32 bits
abbrev pub IsSymbolNumber : Head → Type 0
IsSymbolNumber (App symbol) = symbol.0 < 4294967296
IsSymbolNumber (Int value) = Unit {0}
IsSymbolNumber Nil = Unit {0}
IsSymbolNumber Cons = Unit {0}

abbrev pub is_shared : Phase → Bool
is_shared Out = false
is_shared Raised = false
is_shared Shared = true
is_shared Blocked = false
is_shared Holder = false

abbrev pub is_ready : Stay → Bool
is_ready Away = false
is_ready Based = false
is_ready Ready = true
is_ready Leaving = false

-- in shared access, and in exclusive access
abbrev pub in_shared : NodeView → Bool
in_shared v = is_ready v.store.stay && is_shared v.lock.phase

abbrev pub in_exclusive : NodeView → Bool
in_exclusive v = is_ready v.store.stay && not (is_shared v.lock.phase)

abbrev pub store_of : Store → WhichStore
store_of s = record { table = s.table.shared.table_id; sizes = s.sizes }

abbrev pub pass_of : Pass → WhichPass
pass_of p = record { id = p.seat.seat.id; number = p.seat.number }

-- what a desk sees of this pass
abbrev pub seen_of : Store → Pass → PassView
seen_of s p = seen (store_of s) (pass_of p) (in_shared (view_of p)) (in_exclusive (view_of p))
    (view_of p).crowd (view_of p).store

-- it is out, or in shared or exclusive access with nothing under way
abbrev pub IsPlaced : Store → Pass → Type 0
IsPlaced s p =
    IsOut (view_of p)
    ⊎ (((view_of p).lock.phase ≡ Shared) × IsReady s.sizes (view_of p).store p.base p.in_use)
    ⊎ (IsGranted (view_of p).lock p.seat.number p.seat.seats
    × IsReady s.sizes (view_of p).store p.base p.in_use)

-- It is a pass of the store, between two calls, whose own list is whole.
pub record IsStanding (s : Store) (p : Pass) : Type 0 where
  pub of : IsPassOf s p
  pub told : Tells p
  pub placed : IsPlaced s p
  pub whole : IsWhole s.sizes (view_of p).store
  -- protected rows are counted in 32 bits
  pub small : s.sizes.depth < 2 ^ 32

-- What a desk saw of a pass is what it sees of this one, which is of the same store, out, and may
-- have a desk again.
pub record IsBack (v : PassView) (p : Pass) : Type 0 where
  pub pass : IsPass v.store.table v.store.sizes p.seat.seat p.seat.seats
  pub out : IsOut (view_of p)
  pub told : Tells p
  pub whole : IsWhole v.store.sizes (view_of p).store
  pub seen : seen v.store (pass_of p) false false (view_of p).crowd (view_of p).store ≡ v
