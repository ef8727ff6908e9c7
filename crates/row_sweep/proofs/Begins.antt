-- The first loads of a collection.
use Rattle.std.proofs.Common.{◌≡◌, ℕ, ◌+◌, ◌<◌, ◌≤◌, ◌^◌, Bool, true, cond, List, [], ◌∷◌, ◌++◌, refl, sym, ap, ◌∙◌, subst, inl, inr}
use Rattle.std.proofs.lemmas.Bool.{lt-ltb}
use Rattle.atomic_table.specs.declared.shared.Seat.{Seat}
use Rattle.busy_forbidden.specs.Calls.{IsSame}
use Rattle.store_model.specs.declared.view.Sizes.{Sizes}
use Rattle.store_model.specs.declared.view.View.{View}
use Rattle.store_model.specs.declared.view.Place.{Place}
use Rattle.store_model.specs.declared.view.Place.TheVariants.{Base, Claim}
use Rattle.store_model.specs.declared.view.Call.{Call}
use Rattle.store_model.specs.declared.view.Call.TheVariants.{Idle, Loading}
use Rattle.store_model.specs.Invariant.{span}
use Rattle.store_model.specs.Machine.{LoadAny, with_call}
use Rattle.store_model.specs.Shown.{in_table, index_of}
use Rattle.store_model.specs.Steps.{loads, loading, IsLoading, IsNextLoad}
use Rattle.node_rows.specs.declared.store.Store.{Store}
use Rattle.node_rows.specs.declared.view.NodeView.{NodeView}
use Rattle.node_rows.specs.Collecting.{loaded_any, MayCollect, HasStore}
use Rattle.node_rows.specs.Steps.{with_store, Known}
use Rattle.row_sweep.specs.declared.sweep.Sweep.{Sweep}
use Rattle.row_sweep.specs.Loaded.{begun}
use Rattle.row_sweep.specs.Gathered.{sizes_of, IsAlone, Gathers, StaysSeat, LoadsClaim}
use Rattle.row_sweep.proofs.Loads.{alone_on, stays_by, loading_on}
use Rattle.row_sweep.proofs.Stands.{base_is, claim_few, count_few, there}

-- nothing or these words are loaded
abbrev pub HasBegun : Call → List (Place × ℕ) → Type 0
HasBegun x ls = IsLoading x × (loads x ≡ ls)

module _ (s : Store) (a : Seat (Unit {0}) NodeView) (i n : ℕ) (alone : IsAlone s a i n) (ls : List (Place × ℕ)) (begun : HasBegun a.me.0.store.call ls) (p : Place) where
  abbrev z : Sizes
  z = s.table.shared.key

  pub may_begin : (k : ℕ) → in_table z p ≡ true → IsNextLoad ls p → k ≡ index_of z p → MayCollect z i n a.me.0 (LoadAny p) p k
  may_begin k there next word = record {
    shown = (begun.0, alone.stay, alone.last_roots, there, subst (λ (xs : List (Place × ℕ)). IsNextLoad xs p) (sym begun.1) next);
    granted = alone.granted;
    word = word;
  }

  module _ (b : Seat (Unit {0}) NodeView) (j m v : ℕ) (same : IsSame a b) (number : j ≡ i) (seats : m ≡ n) (view : b.me.0 ≡ with_store a.me.0 (loaded_any z a.me.0.store p v)) where
    pub begin_stays : StaysSeat a i n b j m
    begin_stays = stays_by a i n b j m _ same number seats view

    pub begin_alone : IsAlone s b j m
    begin_alone = alone_on s a i n b j m begin_stays alone

    pub begin_call : b.me.0.store.call ≡ loading z (ls ++ (p, v) ∷ [])
    begin_call = ap (λ (u : NodeView). u.store.call) view ∙ ap (λ (xs : List (Place × ℕ)). loading z (xs ++ (p, v) ∷ [])) begun.1

-- a collection that hasn't begun, and one that has
pub begun_idle : (x : Call) → x ≡ Idle → HasBegun x []
begun_idle x e = (inl e, ap loads e)

pub begun_loading : (x : Call) (ls : List (Place × ℕ)) → x ≡ Loading ls → HasBegun x ls
begun_loading x ls e = (inr (ls, e), ap loads e)

-- what the numbers are
module _ (s : Store) (b : Seat (Unit {0}) NodeView) (j m : ℕ) (alone : IsAlone s b j m) (stands : HasStore s.table.shared.key j b.me.0.store) where
  pub begin_base : (v : ℕ) → b.me.0.store.call ≡ Loading ((Base, v) ∷ []) → v ≡ b.me.0.store.base
  begin_base v call = base_is s.table.shared.key j b.me.0.store ((Base, v) ∷ []) call stands alone.stay v refl

  pub begin_claim : (u v : ℕ) → b.me.0.store.call ≡ Loading ((Base, u) ∷ (Claim, v) ∷ []) → v ≤ s.table.shared.key.rows + s.table.shared.key.seats
  begin_claim u v call = claim_few s.table.shared.key j b.me.0.store ((Base, u) ∷ (Claim, v) ∷ []) call stands v refl

  pub begin_count : (u v w : ℕ) → u + v + 1 + span s.table.shared.key ≤ 2 ^ 62 → b.me.0.store.call ≡ loading s.table.shared.key (begun u v w []) → w ≤ s.table.shared.key.rows
  begin_count u v w room call = count_few s.table.shared.key j b.me.0.store (begun u v w []) (call ∙ loading_on s.table.shared.key u v w [] room) stands w refl

-- the base and the claim are loaded: in a store in which the facts hold they are its words
pub claim_loads : (z : Sizes) (j : ℕ) (v w : View) (u n : ℕ) → HasStore z j w → w ≡ with_call v (Loading ((Base, u) ∷ (Claim, n) ∷ [])) → u ≡ v.base → LoadsClaim z j v n
claim_loads z j v w u n h is base =
    let ls : List (Place × ℕ) = (Base, v.base) ∷ (Claim, n) ∷ [] in
    let at : View = with_call v (Loading ls) in
    let stands : HasStore z j at = subst (HasStore z j) (is ∙ ap (λ (k : ℕ). with_call v (Loading ((Base, k) ∷ (Claim, n) ∷ []))) base) h in
    record {
      loaded = stands;
      base_is = there z j at ls refl stands Base v.base refl;
      claim_is = there z j at ls refl stands Claim n refl;
      few = claim_few z j at ls refl stands n refl;
    }

-- and so they were for the collection from its begin on
pub claim_before : (z : Sizes) (i j : ℕ) (v w : View) (x : Call) (n : ℕ) → j ≡ i → w ≡ with_call v x → LoadsClaim z j w n → LoadsClaim z i v n
claim_before z i j v w x n same is h =
    let t : LoadsClaim z i (with_call v x) n = subst (λ (y : ℕ × View). LoadsClaim z y.0 y.1 n) (λ k. (same k, is k)) h in
    record { loaded = t.loaded; base_is = t.base_is; claim_is = t.claim_is; few = t.few }

-- a worn collection leaves the view as it was
pub worn_as : (z : Sizes) (a b : NodeView) (u v w : ℕ) → a.store.call ≡ Idle → b ≡ with_store a (with_call a.store b.store.call) → b.store.call ≡ loading z (begun u v w []) → 2 ^ 62 < u + v + 1 + span z → b ≡ a
worn_as z a b u v w idle only call worn =
    let ends : b.store.call ≡ Idle = call ∙ ap (λ (t : Bool). cond t Idle (Loading (begun u v w []))) (lt-ltb (2 ^ 62) (u + v + 1 + span z) worn) in
    only ∙ ap (λ (x : Call). with_store a (with_call a.store x)) (ends ∙ sym idle)

-- and one that isn't goes on
pub begin_gathers : (c : Sweep) (b : Seat (Unit {0}) NodeView) (j m : ℕ) → IsAlone c.store.now b j m → HasStore (sizes_of c) j b.me.0.store → Known (sizes_of c) b.me.0.store → b.me.0.store.call ≡ loading (sizes_of c) (begun c.base c.claim c.count []) → Gathers c b j m
begin_gathers c b j m alone stands known call = record {
  alone = alone;
  more = [];
  call = call ∙ loading_on (sizes_of c) c.base c.claim c.count [] (subst (λ (z : Sizes). c.base + c.claim + 1 + span z ≤ 2 ^ 62) (sym c.at.told) c.room);
  stands = stands;
  known = known;
}
