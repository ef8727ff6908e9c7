-- A seat's steps past the lock: what the own view becomes, and what a seat knows by its view alone.
use Rattle.std.specs.Prelude.{◌≡◌, ◌≢◌, ◌⊎◌, ◌==◌, if◌then◌else◌, ℕ, suc, ◌+◌, ◌<◌, ◌≤◌, ◌^◌, true, List, length, get_or}
use Rattle.atomic_table.specs.Table.{Me, Step}
use Rattle.atomic_table.specs.Seated.{TableId}
use Rattle.atomic_table.specs.declared.shared.Seat.{Seat}
use Rattle.term_model.specs.declared.Head.{Head}
use Rattle.term_model.specs.Tree.{Tree}
use Rattle.lock_core.specs.declared.parts.Phase.TheVariants.{Shared}
use Rattle.busy_forbidden.specs.declared.view.LockView.{LockView}
use Rattle.busy_forbidden.specs.Exclusive.{IsGranted}
use Rattle.store_model.specs.declared.view.Sizes.{Sizes}
use Rattle.store_model.specs.declared.view.View.{View}
use Rattle.store_model.specs.declared.view.Content.{Content}
use Rattle.store_model.specs.declared.view.Call.{Call}
use Rattle.store_model.specs.declared.view.Call.TheVariants.{Idle, Comparing, Passing, Finding, Drawing, Loading, Storing}
use Rattle.store_model.specs.declared.view.Place.{Place}
use Rattle.store_model.specs.declared.view.Place.TheVariants.{Base, InUse, Bucket, RowWord, RootCount, Root}
use Rattle.store_model.specs.declared.view.Stay.TheVariants.{Away, Ready}
use Rattle.store_model.specs.Machine as core
use Rattle.store_model.specs.Machine.{Action, based, ready, begins, action, with_got, rooted, root_counted, knowing, protected_in, LoadBase, LoadInUse, Begin, Go, LoadRoot, StoreRoot, StoreCount, ReadWord, ReadArgument, IsCreation, Each, widest}
use Rattle.store_model.specs.Calls.{bucket}
use Rattle.store_model.specs.Shown.{total, in_table, index_of}
use Rattle.store_model.specs.Seats.{Where, looked, index, drawn}
use Rattle.store_model.specs.Invariant.{span}
use Rattle.store_model.specs.Steps.{IsAtRest}
use Rattle.store_model.specs.ByView as by_view
use Rattle.store_model.specs.ByView.{KnowsWord}
use Rattle.node_rows.specs.declared.view.NodeView.{NodeView}
use Rattle.node_rows.specs.Knowing.{KnowsTree, EndsAbsent}

abbrev pub with_store : NodeView → View → NodeView
with_store v x = record v { store = x }

-- Of seat i's step: its word, what that becomes where it was n, and the own view then.
abbrev pub place_of : ℕ → core.Step → View → Place
place_of i LoadBase v = Base
place_of i LoadInUse v = InUse
place_of i (Begin c) v = Bucket (bucket c v.in_use)
place_of i Go v = (action v v.call).place
place_of i (LoadRoot k) v = Root i k
place_of i (StoreRoot k r) v = Root i k
place_of i (StoreCount n) v = RootCount i
place_of i (ReadWord r k) v = RowWord r k
place_of i (ReadArgument r k) v = RowWord r (suc (suc k))
place_of i x v = Base

abbrev pub written_by : core.Step → View → ℕ → ℕ
written_by Go v n = (action v v.call).written n
written_by (StoreRoot k r) v n = r
written_by (StoreCount c) v n = c
written_by x v n = n

abbrev pub moved_by : core.Step → View → ℕ → View
moved_by LoadBase v n = based v n
moved_by LoadInUse v n = ready v n
moved_by (Begin c) v n = (begins v c).moved n
moved_by Go v n = (action v v.call).moved n
moved_by (LoadRoot k) v n = with_got v n
moved_by (StoreRoot k r) v n = rooted v k r
moved_by (StoreCount c) v n = root_counted v c
moved_by (ReadWord r k) v n = knowing v r k n
moved_by (ReadArgument r k) v n = with_got (knowing v r (suc (suc k)) n) n
moved_by x v n = v

abbrev pub act : ℕ → core.Step → View → Action
act i x v = record { place = place_of i x v; written = written_by x v; moved = moved_by x v }

-- it is one of these
abbrev pub Acts : core.Step → Type 0
Acts LoadBase = Unit {0}
Acts LoadInUse = Unit {0}
Acts (Begin c) = Unit {0}
Acts Go = Unit {0}
Acts (LoadRoot k) = Unit {0}
Acts (StoreRoot k r) = Unit {0}
Acts (StoreCount n) = Unit {0}
Acts (ReadWord r k) = Unit {0}
Acts (ReadArgument r k) = Unit {0}
Acts x = ⊥

-- it is one on protected rows, or a read of a row
abbrev pub IsOwnRead : core.Step → Type 0
IsOwnRead (LoadRoot k) = Unit {0}
IsOwnRead (StoreRoot k r) = Unit {0}
IsOwnRead (StoreCount n) = Unit {0}
IsOwnRead (ReadWord r k) = Unit {0}
IsOwnRead (ReadArgument r k) = Unit {0}
IsOwnRead x = ⊥

-- a walk stands at a row
abbrev pub Stands : Call → Type 0
Stands (Comparing c d from old at k) = 0 < at
Stands (Passing c d from old at dif) = 0 < at
Stands x = Unit {0}

-- of N rows a call has passed n
abbrev pub Few : ℕ → ℕ → Call → Type 0
Few N n Idle = Unit {0}
Few N n (Comparing c d from old at k) = n < N
Few N n (Passing c d from old at dif) = n < N
Few N n (Finding c d r) = Unit {0}
Few N n (Loading ls) = Unit {0}
Few N n (Storing ls ss) = Unit {0}
Few N n x = n ≤ N

-- what holds of a seat's view, whatever the words are
pub record Known (z : Sizes) (v : View) : Type 0 where
  pub calls : v.call ≢ Idle → v.stay ≡ Ready
  pub used : v.stay ≡ Ready → 0 < v.in_use
  pub within : v.stay ≡ Ready → v.in_use ≤ z.buckets
  pub room : v.stay ≢ Away → v.base + span z ≤ 2 ^ 62
  pub looked : Where (looked v.call) (λ r. r < z.rows)
  pub stands : Stands v.call
  pub few : Few z.rows v.passed v.call
  pub later : Where (index v.call) (λ a. v.seen < v.base + a)
  pub index : Where (index v.call) (λ a. a < z.rows)
  pub drawn : Where (drawn v.call) (λ d. d.1 < z.rows)
  pub roots : length v.roots ≡ z.depth
  pub root_count : v.root_count ≤ z.depth
  -- the rows that it may name in its access are rows
  pub got : v.stay ≢ Away → Each (λ r. r < z.rows) v.got
  pub protects : IsAtRest v → Each (λ r. r < z.rows) (protected_in v)
  -- what it knows of rows: a word has one value, a count is of arguments that there is
  -- room for, the first word is that of a head, and no two rows have the same tree
  pub words : IsAtRest v → (r k m n : ℕ) → KnowsWord r k m v.knows → KnowsWord r k n v.knows → m ≡ n
  pub counts : IsAtRest v → (r n : ℕ) → KnowsWord r 1 n v.knows → n ≤ widest z
  pub heads : IsAtRest v → (r n : ℕ) → KnowsWord r 0 n v.knows → n ≤ 4294967298
  pub trees : IsAtRest v → (r q : ℕ) (t : Tree) → KnowsTree v.knows r t
      → KnowsTree v.knows q t → r ≡ q
  -- the only pass finds its chain without the row exactly where no row has its tree
  pub absent : z.seats ≡ 1 → EndsAbsent v.entries v.call

-- what a step tells: the own view that its action leaves, and what is then known
abbrev pub goes_on : core.Step → Step (Unit {0}) → Me (Unit {0}) NodeView → ℕ
    → Me (Unit {0}) NodeView → Type 0
goes_on x st me n me' =
    (me' ≡ (with_store me.0 (moved_by x me.0.store n), me.1)) × Known me.0.sizes me'.0.store

-- the load of the base tells besides that it is at least the own base
abbrev pub bases_on : Step (Unit {0}) → Me (Unit {0}) NodeView → ℕ → Me (Unit {0}) NodeView → Type 0
bases_on st me n me' = goes_on LoadBase st me n me' × (me.0.store.base ≤ n)

-- the load of a protected row tells besides that it is the one that the view has
abbrev pub root_on : ℕ → Step (Unit {0}) → Me (Unit {0}) NodeView → ℕ
    → Me (Unit {0}) NodeView → Type 0
root_on k st me n me' = goes_on (LoadRoot k) st me n me' × (n ≡ get_or me.0.store.roots k 0)

abbrev pub over : Head → List ℕ → Content
over f rs = record { head = f; arguments = rs }

abbrev pub begins_with : Head → List ℕ → Step (Unit {0}) → Me (Unit {0}) NodeView → ℕ
    → Me (Unit {0}) NodeView → Type 0
begins_with f rs = goes_on (Begin (over f rs))

-- the seat is one of this table, which has room for all words
pub record IsOf (t : TableId) (z : Sizes) (seat : Seat (Unit {0}) NodeView) : Type 0 where
  pub table : seat.table_id ≡ t
  pub sizes : seat.me.0.sizes ≡ z
  pub wide : total z ≤ t.words

-- a creation is under way, and its next step is on the word k
pub record Goes (z : Sizes) (v : View) (k : ℕ) : Type 0 where
  pub creation : IsCreation v.call
  pub there : in_table z (action v v.call).place ≡ true
  pub word : k ≡ index_of z (action v v.call).place

-- that step only reads
abbrev pub Reads : View → Type 0
Reads v = (n : ℕ) → (action v v.call).written n ≡ n

-- that step writes y, whatever was there
pub record Writes (v : View) (y : ℕ) : Type 0 where
  pub written : (n : ℕ) → (action v v.call).written n ≡ y
  pub moved : (m n : ℕ) → (action v v.call).moved m ≡ (action v v.call).moved n

-- what a step on word n leaves
abbrev pub went : View → ℕ → View
went v n = (action v v.call).moved n

-- the step draws a number
abbrev pub IsDraw : Call → Type 0
IsDraw (Drawing c from n) = Unit {0}
IsDraw x = ⊥

-- the step exchanges this head for that
abbrev pub Exchanges : View → ℕ → ℕ → Type 0
Exchanges v old new = (n : ℕ) → (action v v.call).written n ≡ (if n == old then new else n)

-- an access was granted
abbrev pub MayLoad : LockView → ℕ → ℕ → Type 0
MayLoad v i n = (v.phase ≡ Shared) ⊎ IsGranted v i n

-- Creations are made in shared access, and in an exclusive one after a collection of it.
abbrev pub MayCreateBy : NodeView → Type 0
MayCreateBy v = (v.lock.phase ≡ Shared) ⊎ (v.store.fresh ≡ true)

-- a creation may begin, with the chain of this word, as the own view shows
pub record MayMake (z : Sizes) (v : NodeView) (f : Head) (rs : List ℕ) (k : ℕ) : Type 0 where
  pub shown : by_view.Shows z v.store (Begin (over f rs))
  pub access : MayCreateBy v
  pub there : in_table z (Bucket (bucket (over f rs) v.store.in_use)) ≡ true
  pub word : k ≡ index_of z (Bucket (bucket (over f rs) v.store.in_use))

abbrev pub begun : View → Head → List ℕ → ℕ → View
begun v f rs n = (begins v (over f rs)).moved n

-- Seat i may make this step on the word k, as its own view shows, and needs no more of the lock: a
-- step on its protected rows, or a read of a row.
pub record MayStepOn (z : Sizes) (i : ℕ) (v : NodeView) (x : core.Step) (k : ℕ) : Type 0 where
  pub acts : IsOwnRead x
  pub shown : by_view.Shows z v.store x
  pub there : in_table z (place_of i x v.store) ≡ true
  pub word : k ≡ index_of z (place_of i x v.store)
