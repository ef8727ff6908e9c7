-- A collection's steps: the own view after each, and what the own view has to say before it.
use Rattle.std.specs.Prelude.{◌≡◌, ℕ, pred, ◌<◌, true, Option, Some, None, List, [], ◌∷◌, ◌++◌, length}
use Rattle.atomic_table.specs.Table.{Me, Step}
use Rattle.term_model.specs.Tree.{Tree, distinct}
use Rattle.history_core.specs.TermSet.{Holds}
use Rattle.busy_forbidden.specs.Exclusive.{IsGranted}
use Rattle.store_model.specs.declared.view.Sizes.{Sizes}
use Rattle.store_model.specs.declared.view.View.{View}
use Rattle.store_model.specs.declared.view.KnownWord.{KnownWord}
use Rattle.store_model.specs.declared.view.Call.TheVariants.{Storing}
use Rattle.store_model.specs.declared.view.Place.{Place}
use Rattle.store_model.specs.declared.view.Place.TheVariants.{Base, FreeCount, Claim, InUse, FreePlace}
use Rattle.store_model.specs.Machine as core
use Rattle.store_model.specs.Machine.{Action, with_call, LoadAny, StoreAny, StoreClaim}
use Rattle.store_model.specs.Steps.{loads, stores, loading, is_storing, names_left, MayEnd}
use Rattle.store_model.specs.Collection.{collected}
use Rattle.store_model.specs.Shown.{index_of}
use Rattle.store_model.specs.StoreHolds.{StoreHolds}
use Rattle.store_model.specs.ByView as by_view
use Rattle.store_model.specs.ByView.{seen_at}
use Rattle.node_rows.specs.declared.view.NodeView.{NodeView}
use Rattle.node_rows.specs.Crowding.{pairs_of, swept, HasCrowd}
use Rattle.node_rows.specs.Knowing.{KnowsTree}
use Rattle.node_rows.specs.Steps.{with_store, Known}

-- the view after a collection has loaded n from p
abbrev pub loaded_any : Sizes → View → Place → ℕ → View
loaded_any z v p n = with_call v (loading z (loads v.call ++ (p, n) ∷ []))

-- and after it has stored n at p
abbrev pub stored_any : View → Place → ℕ → View
stored_any v p n = with_call v (Storing (loads v.call) ((p, n) ∷ stores v.call))

abbrev pub or_zero : Option ℕ → ℕ
or_zero None = 0
or_zero (Some n) = n

-- the word at p, as a collection has stored it, or else loaded it
abbrev pub word_seen : View → Place → ℕ
word_seen v p = or_zero (seen_at p (loads v.call) (stores v.call))

-- The view after the last store of a collection, which notes a Collect: the base that was stored is
-- one more than its number, and the rows that are in no free place are kept.
abbrev pub ended_by : Sizes → View → View
ended_by z v = collected v (word_seen v Base) (pred (word_seen v Base)) (word_seen v InUse)
    (names_left z (word_seen v))

-- a collection's action by the own view
abbrev pub collects : Sizes → core.Step → View → Action
collects z (LoadAny p) v = record { place = p; written = λ n. n; moved = loaded_any z v p }
collects z (StoreAny p m) v = record { place = p; written = λ n. m; moved = λ n. stored_any v p m }
collects z StoreClaim v = record { place = Claim; written = λ n. 0; moved = λ n. ended_by z v }
collects z x v = record { place = Base; written = λ n. n; moved = λ n. v }

-- the own view shows that a load or a store before the last one may be made, on the word k, and the
-- access is exclusive
pub record MayCollect (z : Sizes) (i n : ℕ) (v : NodeView) (x : core.Step) (p : Place)
    (k : ℕ) : Type 0 where
  pub shown : by_view.Shows z v.store x
  pub granted : IsGranted v.lock i n
  pub word : k ≡ index_of z p

-- a collection has seen the word at p
abbrev pub HasSeen : View → Place → Type 0
HasSeen v p = (n : ℕ) × (seen_at p (loads v.call) (stores v.call) ≡ Some n)

-- The last store may be made: whatever the store is in which the seat has this view, its words may
-- end the collection; and the collection has seen the base, the number of buckets in use, and the
-- free places below their count.
pub record MayEndBy (z : Sizes) (i : ℕ) (v : View) : Type 0 where
  pub storing : is_storing v.call ≡ true
  pub base : HasSeen v Base
  pub in_use : HasSeen v InUse
  pub count : HasSeen v FreeCount
  pub places : (k : ℕ) → k < word_seen v FreeCount → HasSeen v (FreePlace k)
  pub ends : (s : core.State) → StoreHolds z s → s.view i ≡ v → MayEnd z s i

-- there is a store in which the facts hold, and in which seat i has this view
pub record HasStore (z : Sizes) (i : ℕ) (v : View) : Type 0 where
  pub store : core.State
  pub holds : StoreHolds z store
  pub own : store.view i ≡ v

-- what a step of a collection tells: the own view after it, and that there is a store in which the
-- seat has this view
abbrev pub collects_on : core.Step → Step (Unit {0}) → Me (Unit {0}) NodeView → ℕ
    → Me (Unit {0}) NodeView → Type 0
collects_on x st me n me' =
    (me' ≡ (with_store me.0 ((collects me.0.sizes x me.0.store).moved n), me.1))
    × Known me.0.sizes me'.0.store
    × ((i : ℕ) → me.0.lock.number ≡ Some i → HasStore me.0.sizes i me'.0.store)

-- What the last store of a collection tells: the own view after it, with some crowd, and that there
-- is a store in which the seat has this view and this crowd.
abbrev pub claims_on : Step (Unit {0}) → Me (Unit {0}) NodeView → ℕ
    → Me (Unit {0}) NodeView → Type 0
claims_on st me n me' =
    (me' ≡ (swept me.0 (ended_by me.0.sizes me.0.store) me'.0.crowd, me.1))
    × Known me.0.sizes me'.0.store
    × ((i : ℕ) → me.0.lock.number ≡ Some i → HasCrowd me.0.sizes i me'.0)

-- The crowd of a pass whose collection kept these names: a tree for each of them, all different;
-- and the tree that the pass knows of a row is the tree of that name.
pub record IsKept (names : List ℕ) (ks : List KnownWord) (crowd : List Tree) : Type 0 where
  pub many : length crowd ≡ length names
  pub differ : distinct crowd ≡ length crowd
  pub trees : (r : ℕ) (t : Tree) → KnowsTree ks r t → Holds (pairs_of names crowd) r t
