-- A load of a collection, as its seat's view shows it.
use Rattle.std.proofs.Common.{◌≡◌, ℕ, ◌+◌, ◌≤◌, ◌^◌, true, Bool, cond, Some, List, [], ◌∷◌, ◌++◌, sym, ap, ◌∙◌, subst, inr}
use Rattle.std.proofs.lemmas.Bool.{le-ltb}
use Rattle.atomic_table.specs.declared.shared.Seat.{Seat}
use Rattle.busy_forbidden.specs.Calls.{IsSame}
use Rattle.busy_forbidden.specs.Exclusive.{IsGranted}
use Rattle.busy_forbidden.specs.declared.view.LockView.{LockView}
use Rattle.store_model.specs.declared.view.Sizes.{Sizes}
use Rattle.store_model.specs.declared.view.Place.{Place}
use Rattle.store_model.specs.declared.view.Call.{Call}
use Rattle.store_model.specs.declared.view.Call.TheVariants.{Idle, Loading}
use Rattle.store_model.specs.Invariant.{span}
use Rattle.store_model.specs.Machine.{LoadAny, with_call}
use Rattle.store_model.specs.Shown.{in_table, index_of}
use Rattle.store_model.specs.Steps.{loads, value_at, loading, AreLastRoots, IsNextLoad}
use Rattle.node_rows.specs.declared.store.Store.{Store}
use Rattle.node_rows.specs.declared.view.NodeView.{NodeView}
use Rattle.node_rows.specs.Collecting.{loaded_any, MayCollect, HasStore}
use Rattle.node_rows.specs.Steps.{Known, with_store}
use Rattle.row_sweep.specs.declared.sweep.Sweep.{Sweep}
use Rattle.row_sweep.specs.Loaded.{begun, Extends}
use Rattle.row_sweep.specs.Gathered.{sizes_of, loads_of, IsAlone, Gathers, StaysSeat, LoadsMore}
use Rattle.row_sweep.specs.Read.{stays_itself, stays_in_turn}
use Rattle.row_sweep.proofs.Values.{same_itself, extends_push, value_loaded}
use Rattle.row_sweep.proofs.Stands.{loaded_there}

-- not worn, a collection goes on
pub loading_on : (z : Sizes) (b c f : ℕ) (ls : List (Place × ℕ)) → b + c + 1 + span z ≤ 2 ^ 62 → loading z (begun b c f ls) ≡ Loading (begun b c f ls)
loading_on z b c f ls room = ap (λ (t : Bool). cond t Idle (Loading (begun b c f ls))) (le-ltb (2 ^ 62) (b + c + 1 + span z) room)

-- the same seat is in its access still
pub alone_on : (s : Store) (a : Seat (Unit {0}) NodeView) (i n : ℕ) (b : Seat (Unit {0}) NodeView) (j m : ℕ) → StaysSeat a i n b j m → IsAlone s a i n → IsAlone s b j m
alone_on s a i n b j m h k = record {
  of = record { table = h.same.table ∙ k.of.table; sizes = ap (λ (v : NodeView). v.sizes) h.only ∙ k.of.sizes; wide = k.of.wide };
  seats = h.seats ∙ k.seats;
  granted = subst (λ (t : LockView × ℕ × ℕ). IsGranted t.0 t.1 t.2) (λ q. (ap (λ (v : NodeView). v.lock) (sym h.only) q, sym h.number q, sym h.seats q)) k.granted;
  stay = ap (λ (v : NodeView). v.store.stay) h.only ∙ k.stay;
  last_roots = subst (λ (v : NodeView). AreLastRoots v.store) (sym h.only) k.last_roots;
}

-- the view of a step that changes the call alone
pub stays_by : (a : Seat (Unit {0}) NodeView) (i n : ℕ) (b : Seat (Unit {0}) NodeView) (j m : ℕ) (x : Call) → IsSame a b → j ≡ i → m ≡ n → b.me.0 ≡ with_store a.me.0 (with_call a.me.0.store x) → StaysSeat a i n b j m
stays_by a i n b j m x same number seats view = record {
  same = same;
  number = number;
  seats = seats;
  only = view ∙ ap (λ (y : Call). with_store a.me.0 (with_call a.me.0.store y)) (sym (ap (λ (v : NodeView). v.store.call) view));
}

pub more_itself : (a : Seat (Unit {0}) NodeView) (i n : ℕ) → LoadsMore a i n a i n
more_itself a i n = record { stays = stays_itself a i n; extends = λ p k e. e }

pub more_in_turn : (a : Seat (Unit {0}) NodeView) (i n : ℕ) (b : Seat (Unit {0}) NodeView) (j m : ℕ) (c : Seat (Unit {0}) NodeView) (k l : ℕ) → LoadsMore a i n b j m → LoadsMore b j m c k l → LoadsMore a i n c k l
more_in_turn a i n b j m c k l e f = record { stays = stays_in_turn a i n b j m c k l e.stays f.stays; extends = λ p q h. f.extends p q (e.extends p q h) }

module _ (c : Sweep) (a : Seat (Unit {0}) NodeView) (i n : ℕ) (h : Gathers c a i n) where
  loads_are : loads_of a ≡ begun c.base c.claim c.count h.more
  loads_are = ap loads h.call

  pub may_load : (p : Place) (k : ℕ) → in_table (sizes_of c) p ≡ true → k ≡ index_of (sizes_of c) p → MayCollect (sizes_of c) i n a.me.0 (LoadAny p) p k
  may_load p k there word = record {
    shown = (inr (begun c.base c.claim c.count h.more, h.call), h.alone.stay, h.alone.last_roots, there, subst (λ (ls : List (Place × ℕ)). IsNextLoad ls p) (sym loads_are) tt);
    granted = h.alone.granted;
    word = word;
  }

  module _ (b : Seat (Unit {0}) NodeView) (j m : ℕ) (p : Place) (v : ℕ) (same : IsSame a b) (number : j ≡ i) (seats : m ≡ n)
      (view : b.me.0 ≡ with_store a.me.0 (loaded_any (sizes_of c) a.me.0.store p v)) (known : Known (sizes_of c) b.me.0.store) (stands : HasStore (sizes_of c) j b.me.0.store) where
    after : List (Place × ℕ)
    after = begun c.base c.claim c.count (h.more ++ (p, v) ∷ [])

    call_after : b.me.0.store.call ≡ Loading (begun c.base c.claim c.count (h.more ++ (p, v) ∷ []))
    call_after = ap (λ (u : NodeView). u.store.call) view ∙ (ap (λ (ls : List (Place × ℕ)). loading (sizes_of c) (ls ++ (p, v) ∷ [])) loads_are
        ∙ loading_on (sizes_of c) c.base c.claim c.count (h.more ++ (p, v) ∷ []) (subst (λ (z : Sizes). c.base + c.claim + 1 + span z ≤ 2 ^ 62) (sym c.at.told) c.room))

    pub loads_after : loads_of b ≡ loads_of a ++ (p, v) ∷ []
    loads_after = ap loads call_after ∙ ap (λ (ls : List (Place × ℕ)). ls ++ (p, v) ∷ []) (sym loads_are)

    stays : StaysSeat a i n b j m
    stays = stays_by a i n b j m _ same number seats view

    pub loaded_gathers : Gathers c b j m
    loaded_gathers = record { alone = alone_on c.store.now a i n b j m stays h.alone; more = h.more ++ (p, v) ∷ []; call = call_after; stands = stands; known = known }

    pub loaded_more : LoadsMore a i n b j m
    loaded_more = record { stays = stays; extends = subst (λ (ls : List (Place × ℕ)). Extends (loads_of a) ls) (sym loads_after) (extends_push (loads_of a) (p, v)) }

    pub loaded_value : value_at p (loads_of b) ≡ Some v
    loaded_value =
        let there = loaded_there (sizes_of c) j b.me.0.store (begun c.base c.claim c.count (h.more ++ (p, v) ∷ [])) call_after stands in
        ap (value_at p) (ap loads call_after) ∙ value_loaded stands.store.words p (begun c.base c.claim c.count h.more) v (same_itself p) there
