-- A whole collection, as its pass shows it.
use Rattle.std.proofs.Common.{◌≡◌, ℕ, suc, pred, ◌+◌, ◌≤◌, ◌^◌, Bool, List, [], ◌∷◌, ◌++◌, length, refl, sym, ap, ◌∙◌, subst, arith}
use Rattle.atomic_table.specs.declared.shared.Seat.{Seat}
use Rattle.atomic_table.specs.Seated.{TableId}
use Rattle.busy_forbidden.specs.Exclusive.{IsGranted}
use Rattle.history_core.specs.declared.entry.Entry.TheVariants.{Collect}
use Rattle.history_core.specs.Entry.{IsAscending}
use Rattle.store_model.specs.declared.view.Sizes.{Sizes}
use Rattle.store_model.specs.declared.view.View.{View}
use Rattle.store_model.specs.Collection.{collected}
use Rattle.store_model.specs.Invariant.{span}
use Rattle.store_model.specs.Shown.{total}
use Rattle.store_model.specs.Steps.{grown_use, IsAtRest, AreLastRoots}
use Rattle.node_rows.specs.declared.store.Store.{Store}
use Rattle.node_rows.specs.declared.view.NodeView.{NodeView}
use Rattle.node_rows.specs.Passes.{IsStore, IsPass, IsReady}
use Rattle.node_rows.specs.Crowding.{kept_in, swept}
use Rattle.node_rows.specs.CrowdsKept.{kept_snoc}
use Rattle.node_rows.specs.Steps.{Known}
use Rattle.row_sweep.specs.declared.sweep.Sweep.{Sweep}
use Rattle.row_sweep.specs.Gathered.{sizes_of, IsAlone, LoadsClaim}
use Rattle.row_sweep.specs.Collected.{Collects, HasKept, Ends}
use Rattle.row_sweep.proofs.Ending.{inside_marks}

-- a pass in exclusive access
pub pass_alone : (s : Store) (a : Seat (Unit {0}) NodeView) (i n : ℕ) → IsStore s.table.shared.table_id s.table.shared.key s.sizes → IsPass s.table.shared.table_id s.sizes a n → IsGranted a.me.0.lock i n → IsAtRest a.me.0.store → AreLastRoots a.me.0.store → IsAlone s a i n
pass_alone s a i n store pass granted rest roots = record {
  of = record { table = pass.table; sizes = pass.sizes ∙ sym store.told; wide = subst (λ (z : Sizes). total z ≤ s.table.shared.table_id.words) (sym store.told) store.wide };
  seats = pass.count ∙ ap (λ (z : Sizes). z.seats) (sym store.told);
  granted = granted;
  stay = rest.stay;
  last_roots = roots;
}

module _ (c : Sweep) (a : Seat (Unit {0}) NodeView) (i n : ℕ) (b : Seat (Unit {0}) NodeView) (j m : ℕ) (marks : List Bool) (live buckets : ℕ) (e : Ends c a i n b j m marks live buckets) where
  abbrev after : View
  after = collected a.me.0.store (c.base + c.claim + 1) (c.base + c.claim) buckets e.kept

  pub store_is : b.me.0.store ≡ collected a.me.0.store (c.base + c.claim + 1) (c.base + c.claim) buckets e.kept
  store_is = ap (λ (v : NodeView). v.store) e.view

  pub whole_only : b.me.0 ≡ swept a.me.0 b.me.0.store b.me.0.crowd
  whole_only = e.view ∙ ap (λ (u : View). swept a.me.0 u b.me.0.crowd) (sym store_is)

  names_kept : kept_in b.me.0.store.entries ≡ e.kept
  names_kept = ap (λ (v : View). kept_in v.entries) store_is ∙ kept_snoc [] a.me.0.store.entries (Collect (c.base + c.claim) e.kept)

  pub whole_kept : HasKept b.me.0 live
  whole_kept =
      let names : kept_in b.me.0.store.entries ≡ e.kept = names_kept in
      record { crowd = e.crowd; live_is = e.crowd.many ∙ (ap (λ (ns : List ℕ). length ns) names ∙ sym e.live_is) }

  pub whole_collects : (z : Sizes) → sizes_of c ≡ z → c.base ≡ a.me.0.store.base → c.base + c.claim + 1 + span z ≤ 2 ^ 62 → LoadsClaim z i a.me.0.store c.claim → Collects z i a.me.0.store b.me.0.store live buckets
  whole_collects z same base room loads = record {
    claim = c.claim;
    loads = loads;
    kept = e.kept;
    ascends = subst IsAscending names_kept e.ascends;
    below = λ r k. (let inside = inside_marks marks r ((e.marked r).1 k) in let size = e.size in let rows = ap (λ (y : Sizes). y.rows) same in omega arith);
    room = subst (λ (k : ℕ). k + c.claim + 1 + span z ≤ 2 ^ 62) base room;
    live_is = e.live_is;
    buckets_are = e.buckets_are ∙ ap (λ (y : Sizes). grown_use y a.me.0.store.in_use live) same;
    view = store_is ∙ ap (λ (k : ℕ). collected a.me.0.store (k + c.claim + 1) (k + c.claim) buckets e.kept) base;
  }

  pub whole_ready : (z : Sizes) (base in_use : ℕ) → sizes_of c ≡ z → base ≡ c.base + c.claim + 1 → in_use ≡ buckets → IsReady z b.me.0.store base in_use
  whole_ready z base in_use same is used = record {
    rest = subst IsAtRest (sym store_is) (record { call = refl; stay = refl });
    has_base = is ∙ sym (ap (λ (v : View). v.base) store_is);
    has_in_use = used ∙ sym (ap (λ (v : View). v.in_use) store_is);
    known = subst (λ (y : Sizes). Known y b.me.0.store) same e.known;
  }

  pub whole_pass : (t : TableId) (z : Sizes) → IsPass t z a n → IsPass t z b m
  whole_pass t z h = record { table = e.same.table ∙ h.table; sizes = ap (λ (v : NodeView). v.sizes) e.view ∙ h.sizes; count = e.seats ∙ h.count; none = e.same.slots ∙ h.none }

  pred_more : (k : ℕ) → pred (k + 1) ≡ k
  pred_more k = let next : k + 1 ≡ suc k = omega arith in ap pred next

  pub whole_entries : b.me.0.store.entries ≡ a.me.0.store.entries ++ Collect (pred (c.base + c.claim + 1)) e.kept ∷ []
  whole_entries = ap (λ (v : View). v.entries) store_is ∙ ap (λ (k : ℕ). a.me.0.store.entries ++ Collect k e.kept ∷ []) (sym (pred_more (c.base + c.claim)))

  pub whole_seen : pred (c.base + c.claim + 1) ≡ b.me.0.store.seen
  whole_seen = pred_more (c.base + c.claim) ∙ sym (ap (λ (v : View). v.seen) store_is)
