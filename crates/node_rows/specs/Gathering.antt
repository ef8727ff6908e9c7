-- What the steps and the joins of seats leave of what the views gather.
use Rattle.std.proofs.Common.{◌≡◌, ◌≢◌, ℕ, zero, suc, ◌<◌, None, Some, List, [], ◌∷◌, length, set, refl, sym, ap, ◌∙◌, subst, inl, inr, ⊎_elim, arith, length-set}
use mathlib.Core.Option.{some, some-injective, some-ne-none}
use lib.ListN.{get_elem?}
use Rattle.atomic_table.proofs.Lists.{at_set, set_here, set_else}
use Rattle.store_model.specs.Machine.{Each}
use Rattle.store_model.proofs.Basics.{each_map}
use Rattle.node_rows.specs.declared.view.JoinedSeat.{JoinedSeat}
use Rattle.node_rows.specs.declared.view.NodeView.{NodeView}
use Rattle.node_rows.specs.Joining.{spent_view, known_seat, both_views, number_in, seats_in, AreApart, IsSpent, Gathers}

pub not_spent : (v : NodeView) (i : ℕ) → v.lock.number ≡ Some i → v ≢ spent_view
not_spent v i is e = let no : Some i ≡ None =
    sym is ∙ ap (λ (u : NodeView). u.lock.number) e in grind arith

pub at_inside : {A : Type 0} (l : List A) (i : ℕ) (a : A) → get_elem? l i ≡ some a → i < length l
at_inside [] i a e = absurd (some-ne-none a (sym e))
at_inside (x ∷ xs) zero a e = omega arith
at_inside (x ∷ xs) (suc i) a e = let l = at_inside xs i a e in omega arith

pub set_swap : {A : Type 0} (l : List A) (i j : ℕ) (a b : A) → i ≢ j
    → set (set l i a) j b ≡ set (set l j b) i a
set_swap [] i j a b ne = refl
set_swap (x ∷ xs) zero zero a b ne = absurd (ne refl)
set_swap (x ∷ xs) zero (suc j) a b ne = refl
set_swap (x ∷ xs) (suc i) zero a b ne = refl
set_swap (x ∷ xs) (suc i) (suc j) a b ne =
    ap (λ (ys : List _). x ∷ ys) (set_swap xs i j a b (λ e. ne (ap suc e)))

module _ (known views : List NodeView) (g : Gathers known views) (i : ℕ) (v : NodeView) (at : get_elem? views i ≡ some v) (lives : v ≢ spent_view) where
  pub known_at : get_elem? known i ≡ some v
  known_at = ⊎_elim (λ e. absurd (lives e)) (λ k. k) (g.own i v at)

  -- a spent seat is another one
  pub spent_else : (k : ℕ) → get_elem? views k ≡ some spent_view → k ≢ i
  spent_else k e same =
      lives (some-injective v spent_view
      (sym at ∙ subst (λ (q : ℕ). get_elem? views q ≡ some spent_view) same e))

  inside : i < length known
  inside = at_inside known i v known_at

  -- another view of seat i, by an own step or a join
  module _ (w : NodeView) where
    spent_kept : (x : JoinedSeat) → IsSpent known views x
        → IsSpent (set known i w) (set views i w) x
    spent_kept x s = let ne = spent_else x.seat s.spent in
        record {
          view = s.view;
          knew = set_else known i x.seat w ne ∙ s.knew;
          store = s.store;
          crowd = s.crowd;
          spent = set_else views i x.seat w ne ∙ s.spent;
        }

    pub set_gathers : Each (IsSpent known views) w.joined → AreApart (seats_in w.joined)
        → Gathers (set known i w) (set views i w)
    set_gathers held apart = record {
      long = length-set views i w ∙ (g.long ∙ sym (length-set known i w));
      own = λ j x e. ⊎_elim
          (λ (t : (j ≡ i) × (w ≡ x)). inr
          (subst (λ (q : ℕ × NodeView). get_elem? (set known i w) q.0 ≡ some q.1)
          (λ k. (sym t.0 k, t.1 k)) (set_here known i w inside)))
          (λ (t : (j ≢ i) × (get_elem? views j ≡ some x)). ⊎_elim inl
          (λ k. inr (set_else known i j w t.0 ∙ k)) (g.own j x t.1))
          (at_set views i j w x e);
      held = λ j x e. ⊎_elim
          (λ (t : (j ≡ i) × (w ≡ x)). subst
          (λ (u : NodeView). Each (IsSpent (set known i w) (set views i w)) u.joined) t.1
          (each_map _ _ w.joined spent_kept held))
          (λ (t : (j ≢ i) × (get_elem? views j ≡ some x)). each_map _ _ x.joined
          spent_kept (g.held j x t.1))
          (at_set views i j w x e);
      apart = λ j x e. ⊎_elim
          (λ (t : (j ≡ i) × (w ≡ x)). subst
          (λ (u : NodeView). AreApart (seats_in u.joined)) t.1 apart)
          (λ (t : (j ≢ i) × (get_elem? views j ≡ some x)). g.apart j x t.1)
          (at_set views i j w x e);
    }

    -- a step that leaves the joined seats
    pub step_gathers : w.joined ≡ v.joined → Gathers (set known i w) (set views i w)
    step_gathers same = set_gathers (subst (Each (IsSpent known views)) (sym same) (g.held i v at))
        (subst (λ xs. AreApart (seats_in xs)) (sym same) (g.apart i v at))

  spend_kept : (x : JoinedSeat) → IsSpent known views x → IsSpent known (set views i spent_view) x
  spend_kept x s = record {
    view = s.view;
    knew = s.knew;
    store = s.store;
    crowd = s.crowd;
    spent = set_else views i x.seat spent_view (spent_else x.seat s.spent) ∙ s.spent;
  }

  -- seat i is spent
  pub spends : Gathers known (set views i spent_view)
  spends = record {
    long = length-set views i spent_view ∙ g.long;
    own = λ j x e. ⊎_elim
        (λ (t : (j ≡ i) × (spent_view ≡ x)). inl (sym t.1))
        (λ (t : (j ≢ i) × (get_elem? views j ≡ some x)). g.own j x t.1)
        (at_set views i j spent_view x e);
    held = λ j x e. ⊎_elim
        (λ (t : (j ≡ i) × (spent_view ≡ x)). subst
        (λ (u : NodeView). Each (IsSpent known (set views i spent_view)) u.joined) t.1 tt)
        (λ (t : (j ≢ i) × (get_elem? views j ≡ some x)). each_map _ _ x.joined
        spend_kept (g.held j x t.1))
        (at_set views i j spent_view x e);
    apart = λ j x e. ⊎_elim
        (λ (t : (j ≡ i) × (spent_view ≡ x)). subst
        (λ (u : NodeView). AreApart (seats_in u.joined)) t.1 tt)
        (λ (t : (j ≢ i) × (get_elem? views j ≡ some x)). g.apart j x t.1)
        (at_set views i j spent_view x e);
  }

  -- no joined seat is seat i
  pub apart_else : (xs : List JoinedSeat) → Each (IsSpent known views) xs
      → Each (λ y. i ≢ y) (seats_in xs)
  apart_else [] h = tt
  apart_else (x ∷ xs) h = ((λ e. spent_else x.seat h.0.spent (sym e)), apart_else xs h.1)

-- the seat `other` is joined into seat i
pub join_gathers : (known views : List NodeView) → Gathers known views → (i : ℕ) (v : NodeView)
    → get_elem? views i ≡ some v → v ≢ spent_view → (other : ℕ) (w : NodeView)
    → get_elem? views other ≡ some w → w ≢ spent_view
    → number_in w.lock.number ≡ other → i ≢ other
    → Gathers (set known i (both_views v w)) (set (set views i (both_views v w)) other spent_view)
join_gathers known views g i v at lives other w at_other lives_other number ne =
    let both : NodeView = both_views v w in
    let views1 : List NodeView = set views other spent_view in
    let g1 : Gathers known views1 = spends known views g other w at_other lives_other in
    let at1 : get_elem? views1 i ≡ some v = set_else views other i spent_view ne ∙ at in
    let new : IsSpent known views1 (known_seat w) = record {
      view = w;
      knew = subst (λ (q : ℕ). get_elem? known q ≡ some w) (sym number)
          (known_at known views g other w at_other lives_other);
      store = refl;
      crowd = refl;
      spent = subst (λ (q : ℕ). get_elem? views1 q ≡ some spent_view) (sym number)
          (set_here views other spent_view (at_inside views other w at_other));
    } in
    let apart : Each (λ y. number_in w.lock.number ≢ y) (seats_in v.joined) =
    subst (λ (q : ℕ). Each (λ y. q ≢ y) (seats_in v.joined)) (sym number)
    (apart_else known views g other w at_other lives_other v.joined (g.held i v at)) in
    subst (λ (vs : List NodeView). Gathers (set known i both) vs)
    (sym (set_swap views i other both spent_view ne))
    (set_gathers known views1 g1 i v at1 lives both (new, g1.held i v at1) (apart, g.apart i v at))
