-- What the steps on protected rows leave of a view.
use Rattle.std.proofs.Common.{◌≡◌, ◌≤◌, inr, ℕ, zero, suc, ◌<◌, Bool, true, false, cond, List, [], ◌∷◌, ◌++◌, length, get_or, drop, refl, sym, ap, ◌∙◌, subst, arith}
use Rattle.std.specs.Prelude.{nat_lt}
use Rattle.store_model.specs.declared.view.Sizes.{Sizes}
use Rattle.store_model.specs.Machine.{In, Each, with_got, rooted, root_counted, protected_in, Step}
use Rattle.store_model.proofs.Basics.{each_map}
use Rattle.store_model.specs.Shown.{total}
use Rattle.node_rows.specs.declared.view.NodeView.{NodeView}
use Rattle.node_rows.specs.Steps.{with_store, Known, IsOf, MayStepOn}
use Rattle.node_rows.specs.declared.store.Store.{Store}
use Rattle.node_rows.specs.declared.store.Pass.{Pass}
use Rattle.node_rows.specs.Belonging.{IsSamePass}
use Rattle.node_rows.specs.Inside.{IsInside}
use Rattle.node_rows.specs.Passes.{IsReady}
use Rattle.node_rows.specs.Told.{IsTold, view_of}
use Rattle.node_rows.proofs.Tellings.{told_on}
use Rattle.root_sets.specs.Protected.{Keeps}

in_after : (r : ℕ) (xs ys : List ℕ) → In r ys → In r (xs ++ ys)
in_after r [] ys h = h
in_after r (x ∷ xs) ys h = inr (in_after r xs ys h)

in_either : (r x : ℕ) (b : Bool) (xs : List ℕ) → In r xs → In r (cond b (x ∷ xs) xs)
in_either r x true xs h = inr h
in_either r x false xs h = h

pub keeps_all : (v : NodeView) → Keeps v v
keeps_all v = record { only = refl; uses = λ r h. h }

pub keeps_got : (v w : NodeView) (r : ℕ) → w ≡ with_store v (with_got v.store r) → Keeps v w
keeps_got v w r e = subst (Keeps v) (sym e) record { only = refl; uses = λ q h. inr h }

pub keeps_rooted : (v w : NodeView) (k r : ℕ) → w ≡ with_store v (rooted v.store k r) → Keeps v w
keeps_rooted v w k r e = subst (Keeps v) (sym e) record { only = refl; uses = λ q h. in_either q (get_or v.store.roots k 0) (nat_lt k v.store.root_count) v.store.got h }

pub keeps_counted : (v w : NodeView) (n : ℕ) → w ≡ with_store v (root_counted v.store n) → Keeps v w
keeps_counted v w n e = subst (Keeps v) (sym e) record { only = refl; uses = λ q h. in_after q (drop n (protected_in v.store)) v.store.got h }

-- one after another
pub keeps_on : (u v w : NodeView) → Keeps u v → Keeps v w → Keeps u w
keeps_on u v w a b = record {
  only = b.only ∙ ap (λ (q : NodeView). with_store q (record q.store { roots = w.store.roots; root_count = w.store.root_count; got = w.store.got })) a.only;
  uses = λ r h. b.uses r (a.uses r h);
}

-- the same pass, as it is and after two calls
pub same_pass : (p : Pass) → IsSamePass p p
same_pass p = (record { table = refl; id = refl; slots = refl }, refl)

pub same_twice : (p q r : Pass) → IsSamePass p q → IsSamePass q r → IsSamePass p r
same_twice p q r a b = (record { table = b.0.table ∙ a.0.table; id = b.0.id ∙ a.0.id; slots = b.0.slots ∙ a.0.slots }, b.1 ∙ a.1)

-- a pass is inside after a step on its protected rows, which leaves its plain data as they are
pub inside_after : (s : Store) (p q : Pass) → IsInside s p → IsReady s.sizes (view_of p).store q.base q.in_use → IsTold (view_of p).store q.rows q.seen q.last q.marks → IsSamePass p q → q.seat.seats ≡ p.seat.seats
    → Known s.table.shared.key (view_of q).store → Keeps (view_of p) (view_of q) → IsInside s q
inside_after s p q i ready told same seats known keeps =
    let e = keeps.only in
    let v = (view_of p).store in
    let w = (view_of q).store in
    record {
      store = i.store;
      pass = record { table = same.0.table ∙ i.pass.table; sizes = ap (λ (u : NodeView). u.sizes) e ∙ i.pass.sizes; count = seats ∙ i.pass.count; none = same.0.slots ∙ i.pass.none };
      ready = record {
        rest = record { call = ap (λ (u : NodeView). u.store.call) e ∙ ready.rest.call; stay = ap (λ (u : NodeView). u.store.stay) e ∙ ready.rest.stay };
        has_base = ready.has_base ∙ sym (ap (λ (u : NodeView). u.store.base) e);
        has_in_use = ready.has_in_use ∙ sym (ap (λ (u : NodeView). u.store.in_use) e);
        known = subst (λ (z : Sizes). Known z w) i.store.told known;
      };
      told = told_on v w q.rows q.seen q.last q.marks (ap (λ (u : NodeView). u.store.entries) e) (ap (λ (u : NodeView). u.store.seen) e) told;
    }

-- the words of its table that it may step on
pub seated : (s : Store) (p : Pass) → IsInside s p → IsOf s.table.shared.table_id s.table.shared.key p.seat.seat
seated s p i =
    let e = sym i.store.told in
    record { table = i.pass.table; sizes = i.pass.sizes ∙ e; wide = subst (λ (z : Sizes). total z ≤ s.table.shared.table_id.words) e i.store.wide }

pub steps_on : (s : Store) (p : Pass) (x : Step) (k : ℕ) → IsInside s p → MayStepOn s.sizes p.seat.number (view_of p) x k → MayStepOn s.table.shared.key p.seat.number (view_of p) x k
steps_on s p x k i may = subst (λ (z : Sizes). MayStepOn z p.seat.number (view_of p) x k) (sym i.store.told) may

pub each_kept : (v w : NodeView) (rs : List ℕ) → Keeps v w → Each (λ r. In r v.store.got) rs → Each (λ r. In r w.store.got) rs
each_kept v w rs k h = each_map (λ r. In r v.store.got) (λ r. In r w.store.got) rs (λ r i. k.uses r i) h

pub each_got : (got rs : List ℕ) (k : ℕ) → Each (λ r. In r got) rs → k < length rs → In (get_or rs k 0) got
each_got got [] k h l = absurd (omega arith)
each_got got (r ∷ rs) zero h l = h.0
each_got got (r ∷ rs) (suc k) h l = each_got got rs k h.1 (omega arith)
