-- A seat whose collection loads the words of its store.
use Rattle.std.specs.Prelude.{◌≡◌, ℕ, ◌+◌, ◌<◌, ◌≤◌, ◌^◌, List, [], ◌∷◌}
use Rattle.atomic_table.specs.declared.shared.Seat.{Seat}
use Rattle.busy_forbidden.specs.Calls.{IsSame}
use Rattle.busy_forbidden.specs.Exclusive.{IsGranted}
use Rattle.store_model.specs.declared.view.Sizes.{Sizes}
use Rattle.store_model.specs.declared.view.View.{View}
use Rattle.store_model.specs.declared.view.Place.{Place}
use Rattle.store_model.specs.declared.view.Place.TheVariants.{Base, Claim}
use Rattle.store_model.specs.declared.view.Call.TheVariants.{Loading}
use Rattle.store_model.specs.declared.view.Stay.TheVariants.{Ready}
use Rattle.store_model.specs.Invariant.{span}
use Rattle.store_model.specs.Machine.{with_call}
use Rattle.store_model.specs.Steps.{loads, AreLastRoots}
use Rattle.store_model.specs.ByView.{HasAll}
use Rattle.node_rows.specs.declared.store.Store.{Store}
use Rattle.node_rows.specs.declared.view.NodeView.{NodeView}
use Rattle.node_rows.specs.Steps.{IsOf, Known, with_store}
use Rattle.node_rows.specs.Collecting.{HasStore}
use Rattle.row_sweep.specs.declared.sweep.Sweep.{Sweep}
use Rattle.row_sweep.specs.Loaded.{begun, Extends, found}

-- the sizes that the table was told
abbrev pub sizes_of : Sweep → Sizes
sizes_of c = c.store.now.table.shared.key

-- what a seat has loaded
abbrev pub loads_of : Seat (Unit {0}) NodeView → List (Place × ℕ)
loads_of seat = loads seat.me.0.store.call

-- and so the words, as they were loaded
abbrev pub words_of : Seat (Unit {0}) NodeView → Place → ℕ
words_of seat = found (loads_of seat)

-- seat i, one of n, is in exclusive access of the store, and its protected rows are those of its
-- last Roots
pub record IsAlone (s : Store) (seat : Seat (Unit {0}) NodeView) (i n : ℕ) : Type 0 where
  pub of : IsOf s.table.shared.table_id s.table.shared.key seat
  pub seats : n ≡ s.table.shared.key.seats
  pub granted : IsGranted seat.me.0.lock i n
  pub stay : seat.me.0.store.stay ≡ Ready
  pub last_roots : AreLastRoots seat.me.0.store

-- its collection has loaded the three numbers, and maybe more
pub record Gathers (c : Sweep) (seat : Seat (Unit {0}) NodeView) (i n : ℕ) : Type 0 where
  pub alone : IsAlone c.store.now seat i n
  pub more : List (Place × ℕ)
  pub call : seat.me.0.store.call ≡ Loading (begun c.base c.claim c.count more)
  pub stands : HasStore (sizes_of c) i seat.me.0.store
  pub known : Known (sizes_of c) seat.me.0.store

-- The collection of seat i, which knows v, has loaded its base and this claim: they are the words
-- of a store in which the facts hold.
pub record LoadsClaim (z : Sizes) (i : ℕ) (v : View) (claim : ℕ) : Type 0 where
  pub loaded : HasStore z i (with_call v (Loading ((Base, v.base) ∷ (Claim, claim) ∷ [])))
  pub base_is : loaded.store.words Base ≡ v.base
  pub claim_is : loaded.store.words Claim ≡ claim
  pub few : claim ≤ z.rows + z.seats

-- The claim that it loads leaves, after the base, no room for another epoch.
pub record IsWorn (z : Sizes) (i : ℕ) (v : View) : Type 0 where
  pub claim : ℕ
  pub loads : LoadsClaim z i v claim
  pub beyond : 2 ^ 62 < v.base + claim + 1 + span z

-- but for the call under way, the view is as it was
abbrev pub OnlyCalls : NodeView → NodeView → Type 0
OnlyCalls v w = w ≡ with_store v (with_call v.store w.store.call)

-- the same seat, number i of n, whose view is as it was but for the call under way
pub record StaysSeat (a : Seat (Unit {0}) NodeView) (i n : ℕ) (b : Seat (Unit {0}) NodeView)
    (j m : ℕ) : Type 0 where
  pub same : IsSame a b
  pub number : j ≡ i
  pub seats : m ≡ n
  pub only : OnlyCalls a.me.0 b.me.0

-- and which has loaded more
pub record LoadsMore (a : Seat (Unit {0}) NodeView) (i n : ℕ) (b : Seat (Unit {0}) NodeView)
    (j m : ℕ) : Type 0 where
  pub stays : StaysSeat a i n b j m
  pub extends : Extends (loads_of a) (loads_of b)

-- its collection has loaded all words
pub record HasGathered (c : Sweep) (seat : Seat (Unit {0}) NodeView) (i n : ℕ) : Type 0 where
  pub gathers : Gathers c seat i n
  pub all : HasAll (sizes_of c) (loads_of seat)

-- The same seat, which has loaded words again: they are as they were.
pub record LoadsAgain (c : Sweep) (a : Seat (Unit {0}) NodeView) (i n : ℕ)
    (b : Seat (Unit {0}) NodeView) (j m : ℕ) : Type 0 where
  pub stays : StaysSeat a i n b j m
  pub words : words_of b ≡ words_of a
  pub all : HasGathered c a i n → HasGathered c b j m
