-- The words of a table and the views of its seats show a store: the rule of the running store.
use Rattle.std.specs.Prelude.{◌≡◌, ◌⊎◌, ℕ, zero, suc, ◌+◌, ◌<◌, ◌≤◌, List, [], ◌∷◌, length}
use mathlib.Core.Option.{some}
use lib.ListN.{get_elem?}
use Rattle.atomic_table.specs.Table.{State}
use Rattle.term_model.specs.Tree.{Tree}
use Rattle.lock_core.specs.declared.parts.Phase.TheVariants.{Shared, Blocked}
use Rattle.lock_core.specs.declared.parts.Standing.TheVariants.{Free, Held}
use Rattle.lock_core.specs.declared.parts.LockStep.{LockStep}
use Rattle.lock_core.specs.declared.parts.LockStep.TheVariants.{Raise, Look, Lower, Take, Ask, Peek, Unask, Give}
use Rattle.lock_core.specs.Lock.{Lock}
use Rattle.busy_forbidden.specs.declared.view.LockView.{LockView}
use Rattle.busy_forbidden.specs.Shown as lock
use Rattle.busy_forbidden.specs.Moves.{moved}
use Rattle.busy_forbidden.specs.Rules.{ShowsLock}
use Rattle.store_model.specs.declared.view.Sizes.{Sizes}
use Rattle.store_model.specs.declared.view.View.{View}
use Rattle.store_model.specs.declared.view.Call.TheVariants.{Idle}
use Rattle.store_model.specs.declared.view.Stay.{Stay}
use Rattle.store_model.specs.declared.view.Stay.TheVariants.{Away, Based, Ready, Leaving}
use Rattle.store_model.specs.Machine as core
use Rattle.store_model.specs.Machine.{left, leaving, protected_in}
use Rattle.store_model.specs.Shown.{shown, total}
use Rattle.store_model.specs.StoreHolds.{StoreHolds}
use Rattle.store_model.specs.Steps as steps
use Rattle.store_model.specs.Steps.{InPlace, IsAtRest, MayLeave, newcomer}
use Rattle.node_rows.specs.declared.view.NodeView.{NodeView}

abbrev pub lock_of : NodeView → LockView
lock_of v = v.lock

abbrev pub seats_of : Sizes → ℕ
seats_of z = z.seats

-- what a seat knows of the store, by the view j; a seat that isn't split off yet has done nothing
abbrev pub store_at : Sizes → List NodeView → ℕ → View
store_at z [] j = newcomer z
store_at z (v ∷ vs) zero = v.store
store_at z (v ∷ vs) (suc j) = store_at z vs j

-- the store that words and views show, with this lock
abbrev pub state_of : Sizes → List ℕ → List NodeView → Lock → core.State
state_of z words views l = record { lock = l; words = shown z words; view = store_at z views }

-- The table shows a lock, and with it a store in which the facts of the store hold; each seat knows
-- the sizes, and the first one how many seats were split off.
pub record Shows (z : Sizes) (s : State (Unit {0}) NodeView) : Type 0 where
  pub lock : ShowsLock lock_of z.seats s
  pub wide : total z ≤ length s.words
  pub holds : StoreHolds z (state_of z s.words s.views lock.state)
  pub sized : (i : ℕ) (v : NodeView) → get_elem? s.views i ≡ some v → v.sizes ≡ z
  pub some_made : 0 < length s.views
  pub count : (v : NodeView) → get_elem? s.views 0 ≡ some v → v.made ≡ length s.views

-- seat j of a new store
abbrev pub seat_view : Sizes → ℕ → ℕ → NodeView
seat_view z j made = record {
  lock = lock.newcomer j;
  made = made;
  sizes = z;
  store = newcomer z;
  crowd = [];
  joined = [];
}

abbrev pub first_view : Sizes → NodeView
first_view z = seat_view z 0 1

-- the first seat has made one more, which is this
abbrev pub one_made : NodeView → NodeView
one_made v = record v { made = v.made + 1 }

abbrev pub next_seat : NodeView → NodeView
next_seat v = seat_view v.sizes v.made 0

-- a seat with nothing under way, that is in no access
pub record IsAway (v : View) : Type 0 where
  pub stay : v.stay ≡ Away
  pub call : v.call ≡ Idle

-- a seat with nothing under way, that may end its exclusive access, or is at it
pub record IsEnding (v : View) : Type 0 where
  pub stay : MayLeave v
  pub call : v.call ≡ Idle

-- each seat stands as held or free
abbrev pub IsClosed : LockView → Type 0
IsClosed v = (k : ℕ) → (lock.standing v k ≡ Free) ⊎ (lock.standing v k ≡ Held)

abbrev pub node_can : LockStep → NodeView → Type 0
node_can Raise v = IsAway v.store
node_can Look v = IsAway v.store
node_can Lower v =
    (IsAway v.store × (v.lock.phase ≡ Blocked)) ⊎ (IsAtRest v.store × (v.lock.phase ≡ Shared))
node_can Take v = IsAway v.store
node_can (Ask j) v = IsAway v.store
node_can (Peek j) v = IsAway v.store
node_can (Unask j) v = IsAway v.store ⊎ (IsEnding v.store × IsClosed v.lock)
node_can Give v = IsAway v.store ⊎ IsEnding v.store

-- an access has ended, if one was granted
abbrev pub ended : Stay → View → View
ended Away v = v
ended Based v = left v (protected_in v)
ended Ready v = left v (protected_in v)
ended Leaving v = left v (protected_in v)

-- the end of an exclusive access has begun, if one was granted
abbrev pub freed : Stay → View → View
freed Away v = v
freed Based v = leaving v
freed Ready v = leaving v
freed Leaving v = leaving v

abbrev pub store_next : LockStep → View → View
store_next Raise v = v
store_next Look v = v
store_next Lower v = ended v.stay v
store_next Take v = v
store_next (Ask j) v = v
store_next (Peek j) v = v
store_next (Unask j) v = freed v.stay v
store_next Give v = ended v.stay v

-- the own view after a step of the lock
abbrev pub node_next : LockStep → ℕ → NodeView → NodeView
node_next x n v = record v { lock = moved v.lock x n; store = store_next x v.store }

-- what the rule adds to a view of the lock, and which views are away
abbrev pub rest_of : NodeView → Sizes × View × List Tree
rest_of v = (v.sizes, v.store, v.crowd)

abbrev pub is_out : NodeView → Type 0
is_out v = IsAway v.store

-- The step y of seat i is the store's: it is in place in the store that the table shows, and the
-- table then shows the store after it. Before it the table has these words and views, and after it
-- those, with the lock m.
pub record IsStoreStep (z : Sizes) (words : List ℕ) (views : List NodeView) (l : Lock) (i : ℕ)
    (y : core.Step) (words' : List ℕ) (views' : List NodeView) (m : Lock) : Type 0 where
  pub in_place : InPlace z (state_of z words views l) i y
  pub after : state_of z words' views' m ≡ steps.after z (state_of z words views l) i y
