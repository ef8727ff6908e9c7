-- A store and its passes, as their callers see them.
use Rattle.std.specs.Prelude.{◌≡◌, ℕ, ◌<◌, ◌≤◌, ◌^◌, []}
use Rattle.atomic_table.specs.Seated.{TableId}
use Rattle.atomic_table.specs.declared.shared.Seat.{Seat}
use Rattle.lock_core.specs.declared.parts.Phase.TheVariants.{Out}
use Rattle.store_model.specs.declared.view.Sizes.{Sizes}
use Rattle.store_model.specs.declared.view.View.{View}
use Rattle.store_model.specs.Machine.{based, ready, left, protected_in}
use Rattle.store_model.specs.Shown.{total}
use Rattle.store_model.specs.Steps.{IsAtRest, AreLastRoots}
use Rattle.node_rows.specs.declared.view.NodeView.{NodeView}
use Rattle.node_rows.specs.Shown.{IsAway}
use Rattle.store_model.specs.NewStore.{MaySize}
use Rattle.node_rows.specs.Steps.{Known}

-- the sizes are those that the table was told, within their limits, and it has room for all words
pub record IsStore (t : TableId) (key z : Sizes) : Type 0 where
  pub told : key ≡ z
  pub wide : total z ≤ t.words
  pub small : total z < 2 ^ 62
  pub may : MaySize z

-- a pass of this store, which holds no slot
pub record IsPass (t : TableId) (z : Sizes) (seat : Seat (Unit {0}) NodeView)
    (seats : ℕ) : Type 0 where
  pub table : seat.table_id ≡ t
  pub sizes : seat.me.0.sizes ≡ z
  pub count : seats ≡ z.seats
  pub none : seat.me.1 ≡ []

-- it is out, and its protected rows are those of its last Roots
pub record IsOut (v : NodeView) : Type 0 where
  pub phase : v.lock.phase ≡ Out
  pub away : IsAway v.store
  pub roots : AreLastRoots v.store

-- it is in an access, has loaded the base and the number of buckets in use, and has nothing under
-- way
pub record IsReady (z : Sizes) (v : View) (base in_use : ℕ) : Type 0 where
  pub rest : IsAtRest v
  pub has_base : base ≡ v.base
  pub has_in_use : in_use ≡ v.in_use
  pub known : Known z v

-- A granted entry has loaded the base, which is at least the last one, and the number of buckets in
-- use. Another base begins an epoch.
pub record Came (v w : NodeView) (base in_use : ℕ) : Type 0 where
  pub store : w.store ≡ ready (based v.store base) in_use
  pub later : v.store.base ≤ base

-- a refused entry leaves what the pass knows of the store
abbrev pub Stayed : NodeView → NodeView → Type 0
Stayed v w = w.store ≡ v.store

-- a leave has noted Roots, with the rows that the pass protects
abbrev pub Left : NodeView → NodeView → Type 0
Left v w = w.store ≡ left v.store (protected_in v.store)
