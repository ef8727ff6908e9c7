-- The desks at the passes of a new store, one after the other, and the passes that they give back.
use Rattle.std.proofs.Common.{◌≡◌, ℕ, zero, suc, ◌+◌, ◌<◌, ◌≤◌, List, [], ◌∷◌, ◌++◌, get_or, length, refl, sym, ap, subst, ◌∙◌, arith, length-append}
use Rattle.std.specs.Prelude.{All, Some, false, slice_get, Result, Ok, Err, IfOk}
use Rattle.std.proofs.lemmas.Option.{slice_get_read, same_Some}
use Rattle.settings.specs.Words.{AreInRange}
use Rattle.settings.specs.declared.parts.Settings.{Settings}
use Rattle.rule_match.specs.Planned.{Planned}
use Rattle.busy_forbidden.specs.Dealt.{EachPlace}
use Rattle.store_model.specs.NewStore.{MaySize}
use Rattle.store_model.specs.declared.view.Sizes.{Sizes}
use Rattle.node_rows.specs.Passes.{IsStore}
use Rattle.node_rows.specs.Opening.{IsNew}
use Rattle.store_model.specs.Told.{told}
use Rattle.node_rows.specs.declared.store.Store.{Store}
use Rattle.node_rows.specs.declared.store.Pass.{Pass}
use Rattle.node_rows.specs.declared.view.NodeView.{NodeView}
use Rattle.shared_desk.specs.Code.{Contents}
use Rattle.shared_desk.specs.Pass.{PassView}
use Rattle.shared_desk.specs.Passes.{seen_of, in_shared}
use Rattle.work_desks.specs.NewDesks.{sizes_for, IsNewPass, IsNewDesk}

pub has_rows : (s : Settings) → AreInRange s → 1 ≤ s.rows
has_rows s r = let rows = r.rows in let many : (1 ≤ s.rows) × (s.rows ≤ 262144) = grind (arith, rows) in many.0

pub may_size : (s : Settings) (plan : Planned) → AreInRange s → plan.widest ≤ 16 → MaySize (sizes_for s plan)
may_size s plan r w =
    let rows = r.rows in
    let workers = r.workers in
    let depth = r.depth in
    let seats : (1 ≤ s.workers) × (s.workers ≤ 16) = grind (arith, workers) in
    let many : (1 ≤ s.rows) × (s.rows ≤ 262144) = grind (arith, rows) in
    let deep : s.depth ≤ 65536 = grind (arith, depth) in
    record {
      rows = many;
      buckets = many;
      start = (many.0, omega arith);
      seats = seats;
      depth = deep;
      arity = w;
      first = omega arith;
      room = omega (arith, many.1, seats.1);
    }

-- what a desk at a new pass shows
pub new_desk : (s : Store) (k : ℕ) (p : Pass) (d : Contents) → IsNewPass s k p → d.pass ≡ seen_of s p → d.stack ≡ [] → d.spent ≡ false → IsNewDesk s k d
new_desk s k p d new e stack unspent = record {
  outside = ap (λ (u : PassView). u.shared) e ∙ ap in_shared new.view;
  stack = stack;
  unspent = unspent;
  built = ap (λ (u : PassView). u.built) e ∙ ap (λ (v : NodeView). (told v.store.entries).built) new.view;
  sweeps = ap (λ (u : PassView). u.sweeps) e ∙ ap (λ (v : NodeView). (told v.store.entries).sweeps) new.view;
  load = ap (λ (u : PassView). u.load) e ∙ ap (λ (v : NodeView). (told v.store.entries).load) new.view;
  number = ap (λ (u : PassView). u.seat.number) e ∙ new.place;
  store = ap (λ (u : PassView). u.store) e;
  rows = ap (λ (u : PassView). u.rows) e;
  arity = ap (λ (u : PassView). u.arity) e;
  depth = ap (λ (u : PassView). u.depth) e;
}

pub new_desk_of : {E : Type 0} (s : Store) (p : Pass) (r : Result Contents E) → IfOk r (λ d. d.pass ≡ seen_of s p) → IfOk r (λ d. d.stack ≡ []) → IfOk r (λ d. d.spent ≡ false)
    → IfOk r (λ d. (k : ℕ) → IsNewPass s k p → IsNewDesk s k d)
new_desk_of s p (Ok d) e stack unspent = λ k new. new_desk s k p d new e stack unspent
new_desk_of s p (Err x) e stack unspent = tt

-- what `Store::make` answers
pub new_of : {V E : Type 0} (items : V → List Pass) (z : Sizes) (r : Result (Store × V) E)
    → IfOk r (λ t. IsStore t.0.table.shared.table_id t.0.table.shared.key t.0.sizes × (t.0.sizes ≡ z))
    → IfOk r (λ t. EachPlace (λ j p. IsNew t.0.table.shared.table_id z j p.seat.seat p.seat.number p.seat.seats) z.seats (items t.1))
    → IfOk r (λ t. EachPlace (IsNewPass t.0) t.0.sizes.seats (items t.1))
new_of items z (Ok t) store new = subst (λ (y : Sizes). EachPlace (λ j p. IsNew t.0.table.shared.table_id y j p.seat.seat p.seat.number p.seat.seats) y.seats (items t.1)) (sym store.1) new
new_of items z (Err x) store new = tt

pub stores_of : {V E : Type 0} (z w : Sizes) (r : Result (Store × V) E) → z ≡ w
    → IfOk r (λ t. IsStore t.0.table.shared.table_id t.0.table.shared.key t.0.sizes × (t.0.sizes ≡ z)) → IfOk r (λ t. t.0.sizes ≡ w)
stores_of z w (Ok t) e store = store.1 ∙ e
stores_of z w (Err x) e store = tt

pub store_is : {V E : Type 0} (z : Sizes) (r : Result (Store × V) E)
    → IfOk r (λ t. IsStore t.0.table.shared.table_id t.0.table.shared.key t.0.sizes × (t.0.sizes ≡ z))
    → IfOk r (λ t. IsStore t.0.table.shared.table_id t.0.table.shared.key t.0.sizes)
store_is z (Ok t) store = store.0
store_is z (Err x) store = tt

-- the item at a place, where it was read so
pub all_at : {A : Type 0} (P : A → Type 0) (xs : List A) (k : ℕ) (x : A) → All P xs → k < length xs → x ≡ get_or xs k x → P x
all_at P xs k x all lt e = subst P (sym e) (all k x lt)

pub got_at : {A : Type 0} (xs : List A) (k : ℕ) (x : A) → k < length xs → x ≡ get_or xs k x → slice_get xs k ≡ Some x
got_at xs k x lt e = slice_get_read xs (length xs) k x refl lt e

-- ---- one item more at the end
pushed_at : {A : Type 0} (xs : List A) (x : A) (P : ℕ → A → Type 0) → ((j : ℕ) (y : A) → slice_get xs j ≡ Some y → P j y) → P (length xs) x
    → (j : ℕ) (y : A) → slice_get (xs ++ x ∷ []) j ≡ Some y → P j y
pushed_at [] x P each here zero y e = subst (P 0) (same_Some x y e) here
pushed_at [] x P each here (suc j) y e = absurd cc
pushed_at (z ∷ zs) x P each here zero y e = each 0 y e
pushed_at (z ∷ zs) x P each here (suc j) y e = pushed_at zs x (λ i w. P (suc i) w) (λ i w at. each (suc i) w at) here j y e

pub one_more : {A : Type 0} (P : ℕ → A → Type 0) (olds news : List A) (a : A) (n m : ℕ) → news ≡ olds ++ a ∷ [] → m ≡ n + 1 → EachPlace P n olds → P n a → EachPlace P m news
one_more P olds news a n m e more old here =
    let l = length-append olds (a ∷ []) in
    let c = old.count in
    let long : length (olds ++ a ∷ []) ≡ m = omega (arith, l, c, more) in
    let there : P (length olds) a = subst (λ k. P k a) (sym c) here in
    record {
      count = ap length e ∙ long;
      each = λ j y at. pushed_at olds a P old.each there j y (subst (λ zs. slice_get zs j ≡ Some y) e at);
    }

pub none_yet : {A : Type 0} (P : ℕ → A → Type 0) (items : List A) → items ≡ [] → EachPlace P 0 items
none_yet P [] e = record { count = refl; each = λ j x at. absurd cc }
none_yet P (x ∷ xs) e = absurd cc
