-- What entries and leaves leave of a pass's view.
use Rattle.std.proofs.Common.{◌≤◌, ◌≡◌, inl, inr, ℕ, zero, suc, eqb, Bool, true, false, cond, List, [], ◌∷◌, ◌++◌, Result, refl, sym, ap, ◌∙◌, subst, ⊎_elim}
use Rattle.std.proofs.lemmas.Bool.{cases_lt}
use mathlib.Core.Logic.{dite}
use native.Mathlib.Decide.{ℕ_discrete}
use Rattle.term_model.specs.Tree.{Tree}
use Rattle.lock_core.specs.declared.parts.LockStep.TheVariants.{Lower, Unask, Give}
use Rattle.busy_forbidden.specs.declared.view.LockView.{LockView}
use Rattle.busy_forbidden.specs.declared.rule.Busy.{Busy}
use Rattle.busy_forbidden.specs.Shown.{standing}
use Rattle.busy_forbidden.specs.Moves.{Fits}
use Rattle.busy_forbidden.specs.Calls.{LeavesMore, run}
use Rattle.busy_forbidden.specs.Entries.{Steps, TriesShared, EntersShared}
use Rattle.busy_forbidden.specs.Exclusive.{freed_one, freed_below, released, next_release, TriesExclusive, EntersExclusive, IsGranted}
use Rattle.busy_forbidden.proofs.Asking.{run_append, goes_free}
use Rattle.busy_forbidden.proofs.Leaving.{tries_shared_leaves, enters_shared_leaves, tries_exclusive_leaves, enters_exclusive_leaves}
use Rattle.store_model.specs.declared.view.Sizes.{Sizes}
use Rattle.store_model.specs.declared.view.View.{View}
use Rattle.store_model.specs.Machine.{based, ready, left, protected_in}
use Rattle.store_model.specs.Steps.{IsAtRest}
use Rattle.node_rows.specs.declared.view.NodeView.{NodeView}
use Rattle.node_rows.specs.Shown.{node_next, node_can, rest_of, is_out, IsAway, IsEnding, IsClosed}
use Rattle.history_core.specs.declared.entry.Entry.{Entry}
use Rattle.history_core.specs.declared.entry.Entry.TheVariants.{Roots}
use Rattle.history_core.specs.Chronicle.{last_roots, roots_after}
use Rattle.store_model.specs.Steps.{AreLastRoots}
use Rattle.node_rows.specs.Passes.{Came, Left}
use Rattle.node_rows.specs.Locking.{node_leaves, ended_on, freed_on, at_rest_in, ending_in}

-- a call of a seat that is away leaves it away, with the same sizes and the same of the store
pub record Stays (v w : NodeView) : Type 0 where
  pub away : IsAway w.store
  pub sizes : w.sizes ≡ v.sizes
  pub store : w.store ≡ v.store
  pub crowd : w.crowd ≡ v.crowd

stays : (v w : NodeView) → LeavesMore rest_of is_out v w → IsAway v.store → Stays v w
stays v w leaves away = let t = leaves away in record {
  away = t.0;
  sizes = ap (λ (q : Sizes × View × List Tree). q.0) t.1;
  store = ap (λ (q : Sizes × View × List Tree). q.1) t.1;
  crowd = ap (λ (q : Sizes × View × List Tree). q.2) t.1;
}

pub tries_shared_stays : (v w : NodeView) (r : Result (Unit {0}) Busy) → TriesShared node_next v w r → IsAway v.store → Stays v w
tries_shared_stays v w r t = stays v w (tries_shared_leaves rest_of is_out node_next node_leaves v w r t)

pub enters_shared_stays : (v w : NodeView) → EntersShared node_next v w → IsAway v.store → Stays v w
enters_shared_stays v w t = stays v w (enters_shared_leaves rest_of is_out node_next node_leaves v w t)

pub tries_exclusive_stays : (i n : ℕ) (v w : NodeView) (r : Result (Unit {0}) Busy) → TriesExclusive node_next i n v w r → IsAway v.store → Stays v w
tries_exclusive_stays i n v w r t = stays v w (tries_exclusive_leaves rest_of is_out node_next node_leaves i n v w r t)

pub enters_exclusive_stays : (i n : ℕ) (v w : NodeView) → EntersExclusive node_next i n v w → IsAway v.store → Stays v w
enters_exclusive_stays i n v w t = stays v w (enters_exclusive_leaves rest_of is_out node_next node_leaves i n v w t)

-- an entry that stayed away until it was granted
pub came_from : (v u w : NodeView) (base in_use : ℕ) → Stays v u → Came u w base in_use → Came v w base in_use
came_from v u w base in_use t came = record {
  store = came.store ∙ ap (λ (x : View). ready (based x base) in_use) t.store;
  later = subst (λ (x : View). x.base ≤ base) t.store came.later;
}

-- the end of an access
pub record Ends (v w : NodeView) : Type 0 where
  pub away : IsAway w.store
  pub sizes : w.sizes ≡ v.sizes
  pub store : Left v w
  pub crowd : w.crowd ≡ v.crowd

abbrev pub Leaves : View → View → Type 0
Leaves v u = IsEnding u × (left u (protected_in u) ≡ left v (protected_in v))

pub ends_shared : (v w : NodeView) → IsAtRest v.store → w ≡ node_next Lower 0 v → Ends v w
ends_shared v w rest is =
    let e : w.store ≡ left v.store (protected_in v.store) = ap (λ (u : NodeView). u.store) is ∙ ended_on v.store.stay v.store (at_rest_in v.store rest) in
    record { away = subst IsAway (sym e) record { stay = refl; call = rest.call }; sizes = ap (λ (u : NodeView). u.sizes) is; store = e; crowd = ap (λ (u : NodeView). u.crowd) is }

either_leaves : (v : View) (j : ℕ) (u : NodeView) (b : Bool) → Leaves v u.store → Leaves v (run node_next (cond b [] ((Unask j, 0) ∷ [])) u).store
either_leaves v j u true h = h
either_leaves v j u false h = subst (Leaves v) (sym (freed_on u.store.stay u.store (ending_in u.store h.0))) (record { stay = inr refl; call = h.0.call }, h.1)

frees : (i j : ℕ) (v : NodeView) → IsEnding v.store → Leaves v.store (run node_next (freed_below i j) v).store
frees i zero v h = (h, refl)
frees i (suc j) v h = subst (λ (u : NodeView). Leaves v.store u.store) (sym (run_append node_next (freed_below i j) (freed_one i j) v)) (either_leaves v.store j (run node_next (freed_below i j) v) (eqb j i) (frees i j v h))

sizes_kept : (xs : Steps) (v : NodeView) → (run node_next xs v).sizes ≡ v.sizes
sizes_kept [] v = refl
sizes_kept (x ∷ xs) v = sizes_kept xs (node_next x.0 x.1 v)

crowd_kept : (xs : Steps) (v : NodeView) → (run node_next xs v).crowd ≡ v.crowd
crowd_kept [] v = refl
crowd_kept (x ∷ xs) v = crowd_kept xs (node_next x.0 x.1 v)

pub ends_exclusive : (i n : ℕ) (v w : NodeView) → IsAtRest v.store → w ≡ run node_next (released i n) v → Ends v w
ends_exclusive i n v w rest is =
    let u : NodeView = run node_next (freed_below i n) v in
    let l = frees i n v record { stay = inl rest.stay; call = rest.call } in
    let e : w ≡ node_next Give 0 u = is ∙ run_append node_next (freed_below i n) ((Give, 0) ∷ []) v in
    let is_left : w.store ≡ left u.store (protected_in u.store) = ap (λ (q : NodeView). q.store) e ∙ ended_on u.store.stay u.store (ending_in u.store l.0) in
    record {
      away = subst IsAway (sym is_left) record { stay = refl; call = l.0.call };
      sizes = ap (λ (q : NodeView). q.sizes) is ∙ sizes_kept (released i n) v;
      store = is_left ∙ l.1;
      crowd = ap (λ (q : NodeView). q.crowd) is ∙ crowd_kept (released i n) v;
    }

-- a seat with exclusive access has every other seat held
pub granted_closed : (v : LockView) (i n words : ℕ) → Fits v i n words → IsGranted v i n → IsClosed v
granted_closed v i n words fits granted k = ⊎_elim
    (λ below. dite (ℕ_discrete k i) (λ e. inl (ap (standing v) e ∙ fits.own)) (λ ne. inr (granted.held k below ne)))
    (λ above. inl (fits.above k above))
    (cases_lt k n)

pub may_release : (v : NodeView) (i n : ℕ) → IsAtRest v.store → IsClosed v.lock → node_can (next_release i 0 n) v
may_release v i n rest closed =
    let ending : IsEnding v.store = record { stay = inl rest.stay; call = rest.call } in
    goes_free node_can v i 0 n (λ j. inr (ending, closed)) (inr ending)

-- the last Roots of a pass, after a leave and after an entry
last_noted : (names : List ℕ) (es : List Entry) (seen : ℕ) (rows : List ℕ) → last_roots names (es ++ Roots seen rows ∷ []) ≡ rows
last_noted names [] seen rows = refl
last_noted names (e ∷ es) seen rows = last_noted (roots_after names e) es seen rows

pub left_last : (v w : View) → w ≡ left v (protected_in v) → AreLastRoots w
left_last v w is = subst AreLastRoots (sym is) (last_noted [] v.entries v.seen (protected_in v))

pub came_last : (v w : NodeView) (base in_use : ℕ) → Came v w base in_use → AreLastRoots v.store → AreLastRoots w.store
came_last v w base in_use came h = subst AreLastRoots (sym came.store) h

pub stayed_last : (v w : View) → w ≡ v → AreLastRoots v → AreLastRoots w
stayed_last v w is h = subst AreLastRoots (sym is) h
