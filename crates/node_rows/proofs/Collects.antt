-- What the table asks of each step of a collection.
use Rattle.std.proofs.Common.{◌≡◌, ℕ, zero, suc, ◌<◌, eqb, pred, Bool, true, cond, Some, List, [], ◌∷◌, ◌++◌, refl, sym, ap, ◌∙◌, subst, arith}
use Rattle.atomic_table.specs.Table.{Me, Allows}
use Rattle.term_model.specs.Tree.{Tree}
use Rattle.store_model.specs.declared.view.Sizes.{Sizes}
use Rattle.store_model.specs.declared.view.View.{View}
use Rattle.store_model.specs.declared.view.Place.{Place}
use Rattle.store_model.specs.declared.view.Place.TheVariants.{Base, FreeCount, Claim, InUse, FreePlace}
use Rattle.store_model.specs.Words.{write, put}
use Rattle.store_model.specs.Machine as core
use Rattle.store_model.specs.Machine.{LoadAny, StoreAny, StoreClaim}
use Rattle.store_model.specs.Steps.{Permits, is_free, rows_left, names_left, loads, stores, is_storing}
use Rattle.store_model.specs.Collection.{collected}
use Rattle.store_model.specs.Shown.{index_of}
use Rattle.store_model.specs.StoreHolds.{StoreHolds}
use Rattle.store_model.specs.ByView.{seen_at}
use Rattle.store_model.proofs.Showing.{collection_sees}
use Rattle.node_rows.specs.declared.view.NodeView.{NodeView}
use Rattle.node_rows.specs.Shown.{state_of}
use Rattle.node_rows.specs.Joining.{ShowsJoined}
use Rattle.node_rows.specs.Locking.{store_here}
use Rattle.node_rows.specs.Steps.{with_store, Known}
use Rattle.node_rows.specs.Collecting.{or_zero, word_seen, ended_by, collects, MayCollect, HasSeen, MayEndBy, HasStore}
use Rattle.node_rows.specs.Crowding.{crowd_now, swept, HasCrowd}
use Rattle.node_rows.specs.CrowdsKept.{crowds_end}
use Rattle.node_rows.specs.Sweeping.{IsSweep}
use Rattle.node_rows.proofs.Own.{IsAction, OwesCrowd, crowd_allows, action_allows}
use Rattle.node_rows.proofs.Plays.{permits_shown, exclusive}

-- what a step of a collection tells, whichever it is
abbrev pub TellsCollect : Sizes → core.Step → Me (Unit {0}) NodeView → ℕ → Me (Unit {0}) NodeView → Type 0
TellsCollect y x me n me' =
    (me' ≡ (with_store me.0 ((collects y x me.0.store).moved n), me.1)) × Known me.0.sizes me'.0.store × ((j : ℕ) → me.0.lock.number ≡ Some j → HasStore me.0.sizes j me'.0.store)

pub loads_any : (z : Sizes) (slots id : ℕ) (me : Me (Unit {0}) NodeView) (i k : ℕ) (p : Place) → me.0.lock.number ≡ Some i → MayCollect z i z.seats me.0 (LoadAny p) p k → Allows (ShowsJoined z) slots id me k (λ n. n) (TellsCollect z (LoadAny p) me)
loads_any z slots id me i k p is may = action_allows z slots id me i (LoadAny p) (collects z (LoadAny p)) k (λ n. n) is record {
  acts = λ s rule at. refl;
  there = may.shown.3;
  word = may.word;
  permitted = λ s rule at. permits_shown z s i me.0 rule at (LoadAny p) may.shown (exclusive z s i me.0 rule at may.granted);
  writes = λ s _ _. refl;
} tt

pub stores_any : (z : Sizes) (slots id : ℕ) (me : Me (Unit {0}) NodeView) (i k : ℕ) (p : Place) (m : ℕ) → me.0.lock.number ≡ Some i → MayCollect z i z.seats me.0 (StoreAny p m) p k → Allows (ShowsJoined z) slots id me k (λ _. m) (λ _. TellsCollect z (StoreAny p m) me m)
stores_any z slots id me i k p m is may = action_allows z slots id me i (StoreAny p m) (collects z (StoreAny p m)) k (λ _. m) is record {
  acts = λ s rule at. refl;
  there = may.shown.1;
  word = may.word;
  permitted = λ s rule at. permits_shown z s i me.0 rule at (StoreAny p m) may.shown tt;
  writes = λ s _ _. refl;
} tt

free_same : (place other : ℕ → ℕ) (n r : ℕ) → ((k : ℕ) → k < n → place k ≡ other k) → is_free place n r ≡ is_free other n r
free_same place other zero r h = refl
free_same place other (suc n) r h = ap (λ (x : ℕ). cond (eqb x r) true (is_free place n r)) (h n (omega arith)) ∙ ap (λ (b : Bool). cond (eqb (other n) r) true b) (free_same place other n r (λ k l. h k (omega arith)))

left_same : (place other : ℕ → ℕ) (count n : ℕ) → ((k : ℕ) → k < count → place k ≡ other k) → rows_left place count n ≡ rows_left other count n
left_same place other count zero h = refl
left_same place other count (suc n) h =
    ap (λ (b : Bool). cond b (rows_left place count n) (rows_left place count n ++ n ∷ [])) (free_same place other count n h)
    ∙ ap (λ (rs : List ℕ). cond (is_free other count n) rs (rs ++ n ∷ [])) (left_same place other count n h)

-- the last store of a collection, by what it has seen, is that by the words
module _ (z : Sizes) (t : core.State) (i : ℕ) (holds : StoreHolds z t) (v : View) (here : t.view i ≡ v) (may : MayEndBy z i v) where
  storing : is_storing (t.view i).call ≡ true
  storing = subst (λ (u : View). is_storing u.call ≡ true) (sym here) may.storing

  sees : (p : Place) → HasSeen v p → t.words p ≡ word_seen v p
  sees p has =
      let at : seen_at p (loads (t.view i).call) (stores (t.view i).call) ≡ Some has.0 = subst (λ (u : View). seen_at p (loads u.call) (stores u.call) ≡ Some has.0) (sym here) has.1 in
      collection_sees z t i p has.0 holds storing at ∙ sym (ap or_zero has.1)

  names_same : names_left z t.words ≡ names_left z (word_seen v)
  names_same =
      let count : t.words FreeCount ≡ word_seen v FreeCount = sees FreeCount may.count in
      ap (λ (n : ℕ). rows_left (λ k. t.words (FreePlace k)) n z.rows) count
      ∙ left_same (λ k. t.words (FreePlace k)) (λ k. word_seen v (FreePlace k)) (word_seen v FreeCount) z.rows (λ k l. sees (FreePlace k) (may.places k l))

  pub ends_as : IsAction z t i StoreClaim (collects z StoreClaim)
  ends_as =
      let u : View = t.view i in
      let step : (base in_use : ℕ) → List ℕ → core.State = λ base in_use names. record { lock = t.lock; words = write t.words Claim 0; view = put t.view i (collected u base (pred base) in_use names) } in
      let one : step (t.words Base) (t.words InUse) (names_left z t.words) ≡ step (word_seen v Base) (word_seen v InUse) (names_left z (word_seen v)) = λ q. step (sees Base may.base q) (sees InUse may.in_use q) (names_same q) in
      one ∙ ap (λ (w : View). step (word_seen w Base) (word_seen w InUse) (names_left z (word_seen w))) (sym here)

  pub ends_permitted : Permits z t i StoreClaim
  ends_permitted = (storing, may.ends t holds here)

-- what the last store of a collection tells
abbrev pub TellsClaim : Me (Unit {0}) NodeView → ℕ → Me (Unit {0}) NodeView → Type 0
TellsClaim me n me' = (me' ≡ (swept me.0 (ended_by me.0.sizes me.0.store) me'.0.crowd, me.1)) × Known me.0.sizes me'.0.store × ((j : ℕ) → me.0.lock.number ≡ Some j → HasCrowd me.0.sizes j me'.0)

-- the seat after it
abbrev claimed : Sizes → Me (Unit {0}) NodeView → List Tree → Me (Unit {0}) NodeView
claimed z me crowd = (swept me.0 (ended_by z me.0.store) crowd, me.1)

-- its crowd is that of the names that it keeps
claim_crowd : (z : Sizes) (v : NodeView) (i : ℕ) → OwesCrowd z v i StoreClaim (crowd_now z)
claim_crowd z v i = record { kept = λ t holds ok crowds own was. crowds_end z t i holds ok crowds was }

pub ends_claim : (z : Sizes) (slots id : ℕ) (me : Me (Unit {0}) NodeView) (i k : ℕ) → me.0.lock.number ≡ Some i → me.0.sizes ≡ z → k ≡ index_of z Claim → MayEndBy z i me.0.store → Allows (ShowsJoined z) slots id me k (λ _. 0) (λ _. TellsClaim me 0)
ends_claim z slots id me i k is sizes word may = crowd_allows z slots id me i StoreClaim (collects z StoreClaim) k (λ _. 0) is record {
  acts = λ s rule at. ends_as z (state_of z s.words s.views rule.lock.state) i rule.holds me.0.store (store_here z s.views i me.0 at) may;
  there = refl;
  word = word;
  permitted = λ s rule at. ends_permitted z (state_of z s.words s.views rule.lock.state) i rule.holds me.0.store (store_here z s.views i me.0 at) may;
  writes = λ s _ _. refl;
} (crowd_now z) (claim_crowd z me.0 i) (λ _. TellsClaim me 0)
    (λ n t tells. (subst (λ (y : Sizes). claimed z me (crowd_now z t) ≡ claimed y me (crowd_now z t)) (sym sizes) refl, tells.1, tells.2))

-- each step of a collection is its action by the own view
pub sweep_acts : (z : Sizes) (t : core.State) (i : ℕ) → StoreHolds z t → (v : View) → t.view i ≡ v → (x : core.Step) → IsSweep z i v x → IsAction z t i x (collects z x)
sweep_acts z t i holds v here (LoadAny p) is = refl
sweep_acts z t i holds v here (StoreAny p n) is = refl
sweep_acts z t i holds v here StoreClaim is = ends_as z t i holds v here is
sweep_acts z t i holds v here x is = absurd is
