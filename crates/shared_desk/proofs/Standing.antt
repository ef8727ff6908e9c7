-- What each call of the store leaves of a pass, as its desk sees it.
use Rattle.std.proofs.Common.{◌≡◌, ◌⊎◌, inl, inr, ℕ, ◌≤◌, ◌&&◌, eqb, Bool, true, false, not, List, refl, sym, ap, ap₂, ◌∙◌, subst, ⊎_elim, arith, true≢false}
use mathlib.Core.Logic.{dite}
use native.Mathlib.Decide.{ℕ_discrete}
use Rattle.term_model.specs.Tree.{Tree}
use Rattle.lock_core.specs.declared.parts.Phase.{Phase}
use Rattle.lock_core.specs.declared.parts.Phase.TheVariants.{Shared, Holder}
use Rattle.busy_forbidden.specs.Calls.{IsSame}
use Rattle.busy_forbidden.specs.Exclusive.{IsGranted}
use Rattle.history_core.specs.declared.entry.Entry.TheVariants.{Roots}
use Rattle.store_model.specs.declared.view.KnownWord.{KnownWord}
use Rattle.store_model.specs.declared.view.Stay.{Stay}
use Rattle.store_model.specs.declared.view.Stay.TheVariants.{Away, Ready}
use Rattle.store_model.specs.declared.view.View.{View}
use Rattle.store_model.specs.Machine.{based, ready, left, protected_in}
use Rattle.store_model.proofs.Basics.{choose, eqb_not}
use Rattle.node_rows.specs.declared.view.NodeView.{NodeView}
use Rattle.node_rows.specs.declared.store.Store.{Store}
use Rattle.node_rows.specs.declared.store.Pass.{Pass}
use Rattle.node_rows.specs.Belonging.{IsPassOf}
use Rattle.node_rows.specs.Inside.{IsInside}
use Rattle.node_rows.specs.Passes.{IsPass, IsOut, IsReady, Came, Left}
use Rattle.node_rows.specs.Told.{Tells, view_of}
use Rattle.terms_api.specs.Terms.{IsSound}
use Rattle.store_model.specs.Told.{Told, nothing}
use Rattle.shared_desk.specs.Held.{IsWhole, Forgets}
use Rattle.shared_desk.specs.Pass as desk
use Rattle.shared_desk.specs.Pass.{PassView, WhichPass, own, Arrived}
use Rattle.shared_desk.specs.Seen.{seen}
use Rattle.shared_desk.specs.Passes.{is_shared, is_ready, in_shared, in_exclusive, store_of, pass_of, seen_of, IsPlaced, IsStanding, IsBack}
use Rattle.shared_desk.proofs.Wholes.{told_more, whole_grows}
use Rattle.shared_desk.proofs.Views.{sound_own}
use Rattle.shared_desk.proofs.Losing.{Comes, whole_comes, arrived_seen}
use Rattle.shared_desk.proofs.Remembering.{based_forgets}
use Rattle.shared_desk.proofs.Gaining.{left_seen}

-- an access shows in the lock's phase, and how far it has come
abbrev pub ready_shared : (v : NodeView) → v.store.stay ≡ Ready → v.lock.phase ≡ Shared → (in_shared v ≡ true) × (in_exclusive v ≡ false)
ready_shared v r p =
    (ap₂ (λ (a : Stay) (b : Phase). is_ready a && is_shared b) r p, ap₂ (λ (a : Stay) (b : Phase). is_ready a && not (is_shared b)) r p)

abbrev pub ready_exclusive : (v : NodeView) → v.store.stay ≡ Ready → v.lock.phase ≡ Holder → (in_shared v ≡ false) × (in_exclusive v ≡ true)
ready_exclusive v r p =
    (ap₂ (λ (a : Stay) (b : Phase). is_ready a && is_shared b) r p, ap₂ (λ (a : Stay) (b : Phase). is_ready a && not (is_shared b)) r p)

abbrev pub away_out : (v : NodeView) → v.store.stay ≡ Away → (in_shared v ≡ false) × (in_exclusive v ≡ false)
away_out v e = (ap (λ (a : Stay). is_ready a && is_shared v.lock.phase) e, ap (λ (a : Stay). is_ready a && not (is_shared v.lock.phase)) e)

no : (b : Bool) → b ≡ true → b ≡ false → ⊥
no b t f = true≢false (sym t ∙ f)

abbrev pub InShared : Store → Pass → Type 0
InShared s p = ((view_of p).lock.phase ≡ Shared) × IsReady s.sizes (view_of p).store p.base p.in_use

abbrev pub InExclusive : Store → Pass → Type 0
InExclusive s p = IsGranted (view_of p).lock p.seat.number p.seat.seats × IsReady s.sizes (view_of p).store p.base p.in_use

module _ (s : Store) (p : Pass) (h : IsStanding s p) where
  pub is_out : in_shared (view_of p) ≡ false → in_exclusive (view_of p) ≡ false → IsOut (view_of p)
  is_out a b = elim h.placed [
    | inl out ↦ out
    | inr x ↦ elim x [
      | inl y ↦ absurd (no _ (ready_shared (view_of p) y.1.rest.stay y.0).0 a)
      | inr y ↦ absurd (no _ (ready_exclusive (view_of p) y.1.rest.stay y.0.holder).1 b)
    ]
  ]

  pub is_in_shared : in_shared (view_of p) ≡ true → InShared s p
  is_in_shared a = elim h.placed [
    | inl out ↦ absurd (no _ a (away_out (view_of p) out.away.stay).0)
    | inr x ↦ elim x [
      | inl y ↦ y
      | inr y ↦ absurd (no _ a (ready_exclusive (view_of p) y.1.rest.stay y.0.holder).0)
    ]
  ]

  pub is_in_exclusive : in_exclusive (view_of p) ≡ true → InExclusive s p
  is_in_exclusive a = elim h.placed [
    | inl out ↦ absurd (no _ a (away_out (view_of p) out.away.stay).1)
    | inr x ↦ elim x [
      | inl y ↦ absurd (no _ a (ready_shared (view_of p) y.1.rest.stay y.0).1)
      | inr y ↦ y
    ]
  ]

  pub inside_of : IsReady s.sizes (view_of p).store p.base p.in_use → IsInside s p
  inside_of r = record { store = h.of.store; pass = h.of.pass; ready = r; told = h.told }

  pub inside_at : (in_shared (view_of p) ≡ true) ⊎ (in_exclusive (view_of p) ≡ true) → IsInside s p
  inside_at access = inside_of (⊎_elim (λ a. (is_in_shared a).1) (λ a. (is_in_exclusive a).1) access)

-- an entry was granted: what the load of the base leaves of what the pass knows
pub came_comes : (v : View) (n u : ℕ) → Forgets v (based v n) → v.base ≤ n → Comes v (ready (based v n) u)
came_comes v n u f le =
    record {
      forgets = record { knows = f.knows; trees = f.trees; uses = f.uses; protects = f.protects };
      tree = λ r. refl;
      roots = refl;
      base = dite (ℕ_discrete n v.base)
          (λ e. inl (e, choose (λ (ks : List KnownWord). ks ≡ v.knows) (eqb n v.base) v.knows _ (λ _. refl) (λ ne. absurd (eqb_not n v.base ne e))))
          (λ ne. inr (omega (arith, le)));
    }

pub pass_same : (p q : Pass) → IsSame p.seat.seat q.seat.seat → q.seat.number ≡ p.seat.number → pass_of q ≡ pass_of p
pass_same p q a b = ap₂ (λ (i n : ℕ). (let x : WhichPass = record { id = i; number = n } in x)) a.id b

module _ (s : Store) (p q : Pass) (h : IsStanding s p) (pass : IsPass s.table.shared.table_id s.sizes q.seat.seat q.seat.seats)
    (same : IsSame p.seat.seat q.seat.seat × (q.seat.number ≡ p.seat.number)) (tells : Tells p → Tells q)
    (kept : (view_of q).crowd ≡ (view_of p).crowd) where
  abbrev crowd : List Tree
  crowd = (view_of p).crowd

  of_it : IsPassOf s q
  of_it = record { store = h.of.store; pass = pass }

  module _ (came : Came (view_of p) (view_of q) q.base q.in_use) (forgets : Forgets (view_of p).store (based (view_of p).store q.base)) where
    pub comes : Comes (view_of p).store (view_of q).store
    comes = subst (Comes (view_of p).store) (sym came.store) (came_comes (view_of p).store q.base q.in_use forgets came.later)

    pub standing_came : IsPlaced s q → IsStanding s q
    standing_came placed =
        let st = store_of s in
        record {
          of = of_it;
          told = tells h.told;
          placed = placed;
          whole = whole_comes st (pass_of p) false false false false crowd crowd (view_of p).store (view_of q).store h.whole comes;
          small = h.small;
        }

    pub arrived : Arrived (seen_of s p) (seen_of s q)
    arrived =
        let v = view_of p in
        let w = view_of q in
        let entries : w.store.entries ≡ v.store.entries = ap (λ (x : View). x.entries) came.store in
        subst (λ (ts : List Tree). Arrived (seen_of s p) (seen (store_of s) (pass_of q) (in_shared w) (in_exclusive w) ts w.store)) (sym kept)
        (subst (λ (i : WhichPass). Arrived (seen_of s p) (seen (store_of s) i (in_shared w) (in_exclusive w) crowd w.store)) (sym (pass_same p q same.0 same.1))
        (arrived_seen (store_of s) (pass_of p) (in_shared v) (in_exclusive v) (in_shared w) (in_exclusive w) crowd v.store w.store h.whole comes entries))

  module _ (e : Left (view_of p) (view_of q)) (out : IsOut (view_of q)) where
    whole_left : IsWhole s.sizes (view_of q).store
    whole_left =
        let v = (view_of p).store in
        let rs = protected_in v in
        subst (IsWhole s.sizes) (sym e)
        (whole_grows s.sizes v (left v rs) h.whole
        record { knows = λ r k n x. x; none = λ r x. x; uses = λ r x. x; tree = λ r. ap (λ (t : Told). t.tree r) (told_more nothing v.entries (Roots v.seen rs)) }
        h.whole.once h.whole.one_row h.whole.protects h.whole.few)

    pub standing_left : IsStanding s q
    standing_left = record { of = of_it; told = tells h.told; placed = inl out; whole = whole_left; small = h.small }

    pub left_is : seen_of s q ≡ desk.left (seen_of s p)
    left_is =
        let v = view_of p in
        let w = view_of q in
        let o = away_out w out.away.stay in
        ap₂ (λ (ts : List Tree) (i : WhichPass). seen (store_of s) i (in_shared w) (in_exclusive w) ts w.store) kept (pass_same p q same.0 same.1)
        ∙ ap₂ (λ (a b : Bool). seen (store_of s) (pass_of p) a b crowd w.store) o.0 o.1
        ∙ ap (seen (store_of s) (pass_of p) false false crowd) e
        ∙ left_seen (store_of s) (pass_of p) (in_shared v) (in_exclusive v) crowd v.store (left v.store (protected_in v.store)) h.whole refl refl refl refl refl refl

pub sound_standing : (s : Store) (p : Pass) → IsStanding s p → IsSound (own (seen_of s p))
sound_standing s p h = sound_own (store_of s) (pass_of p) (in_shared (view_of p)) (in_exclusive (view_of p)) (view_of p).crowd (view_of p).store h.whole h.small

-- an entry was granted
pub entered : (s : Store) (p q : Pass) → IsStanding s p → IsPass s.table.shared.table_id s.sizes q.seat.seat q.seat.seats
    → IsSame p.seat.seat q.seat.seat × (q.seat.number ≡ p.seat.number) → (Tells p → Tells q) → (view_of q).crowd ≡ (view_of p).crowd → Came (view_of p) (view_of q) q.base q.in_use
    → IsPlaced s q
    → IsStanding s q × Arrived (seen_of s p) (seen_of s q)
entered s p q h pass same tells kept came placed =
    let f = based_forgets s.sizes (view_of p).store q.base h.whole in
    (standing_came s p q h pass same tells kept came f placed, arrived s p q h pass same tells kept came f)

-- a pass that is out may be given back
pub back_of : (s : Store) (p : Pass) → IsStanding s p → (v : PassView) → seen_of s p ≡ v → v.shared ≡ false → v.alone ≡ false → IsBack v p
back_of s p h v e a b =
    let x : in_shared (view_of p) ≡ false = ap (λ (u : PassView). u.shared) e ∙ a in
    let y : in_exclusive (view_of p) ≡ false = ap (λ (u : PassView). u.alone) e ∙ b in
    let here : IsBack (seen_of s p) p = record {
      pass = h.of.pass;
      out = is_out s p h x y;
      told = h.told;
      whole = h.whole;
      seen = ap₂ (λ (i j : Bool). seen (store_of s) (pass_of p) i j (view_of p).crowd (view_of p).store) (sym x) (sym y);
    } in
    subst (λ (u : PassView). IsBack u p) e here
