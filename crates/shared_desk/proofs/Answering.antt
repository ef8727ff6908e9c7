-- What a build comes to for the desk's callers, whatever it answers.
use Rattle.std.proofs.Common.{◌≡◌, ◌∙◌, ℕ, Bool, true, Result, Ok, Err, Option, List, [], ◌∷◌, ◌++◌, sym, ap, subst, arith}
use Rattle.std.specs.Prelude.{IsErrOf, OnOk, OnErr}
use Rattle.term_model.specs.declared.Row.{Row}
use Rattle.term_model.specs.declared.Head.{Head}
use Rattle.terms_api.specs.declared.terms.BuildFault.{BuildFault}
use Rattle.terms_api.specs.declared.terms.BuildFault.TheVariants.{Deep, StoreFull, Worn}
use Rattle.terms_api.specs.Terms.{IsSound, Built, NotBuilt, IsCrowded, CountsRefusal, trees, but_last, asked}
use Rattle.shared_desk.specs.Pass.{PassView, shown, store}
use Rattle.shared_desk.specs.Desk.{IsSame, Outcome, refusals_after, spent_after}
use Rattle.shared_desk.proofs.Following.{trees_placed}
use Rattle.shared_desk.proofs.Desks.{desk_of, same_told, same_worn, built_shown, not_built_shown, trees_not_built, crowded_shown}

abbrev pub Answer : Type 0
Answer = Result (Unit {0}) BuildFault

-- as many refusals are counted as its answer says
pub counts_after : (v w : PassView) (xs ys : List Row) (k m : ℕ) (s t : Bool) (r : Answer) → m ≡ refusals_after r k → CountsRefusal r (shown v xs k s) (shown w ys m t)
counts_after v w xs ys k m s t (Ok u) e = e
counts_after v w xs ys k m s t (Err Deep) e = e
counts_after v w xs ys k m s t (Err StoreFull) e = omega (arith, e)
counts_after v w xs ys k m s t (Err Worn) e = omega (arith, e)

-- and after Worn the numbers are told to be used up
pub told_after : (s t : Bool) (r : Answer) → t ≡ spent_after r s → IsErrOf r Worn → t ≡ true
told_after s t r e worn = e ∙ ap (λ (q : Answer). spent_after q s) worn

module _ (v w : PassView) (xs ys : List Row) (h : Head) (n : ℕ) where
  pub trees_ok : (r : Answer) → IsSound (store v xs) → Outcome v w xs ys h n r → OnOk r (trees (store w ys) ≡ but_last n (trees (store v xs)) ++ asked (store v xs) h n ∷ [])
  trees_ok (Ok u) so o = trees_placed o.0 v w xs ys n (asked (store v xs) h n) so o.2
  trees_ok (Err f) so o = tt

  pub trees_err : (r : Answer) → IsSound (store v xs) → Outcome v w xs ys h n r → OnErr r (trees (store w ys) ≡ trees (store v xs))
  trees_err (Ok u) so o = tt
  trees_err (Err Deep) so o = absurd o
  trees_err (Err StoreFull) so o = trees_not_built 1 v w xs ys so o.0 o.1
  trees_err (Err Worn) so o = trees_not_built 0 v w xs ys so o.0 o.1

  module _ (k m : ℕ) (s t : Bool) where
    pub shown_ok : (r : Answer) → w.shared ≡ v.shared → Outcome v w xs ys h n r → OnOk r (Built (shown v xs k s) (shown w ys m t) h n)
    shown_ok (Ok u) sh o = built_shown o.0 v w xs ys k m s t h n o.1 o.2 sh
    shown_ok (Err f) sh o = tt

    pub shown_err : (r : Answer) → w.shared ≡ v.shared → Outcome v w xs ys h n r → OnErr r (NotBuilt (shown v xs k s) (shown w ys m t) h n)
    shown_err (Ok u) sh o = tt
    shown_err (Err Deep) sh o = absurd o
    shown_err (Err StoreFull) sh o = not_built_shown 1 v w xs ys k m s t h n (omega arith) o.0 o.1 sh
    shown_err (Err Worn) sh o = not_built_shown 0 v w xs ys k m s t h n (omega arith) o.0 o.1 sh

    pub shown_crowded : (r : Answer) → Outcome v w xs ys h n r → IsErrOf r StoreFull → IsCrowded (shown v xs k s) (shown w ys m t) h n
    shown_crowded r o full = crowded_shown v w xs ys k m s t h n (subst (Outcome v w xs ys h n) full o).2

    -- The numbers are told to be used up where the pass is worn.
    pub same_after : (zs : List Row) (r : Answer) (l o : Option (List ℕ)) → t ≡ spent_after r s → Outcome v w xs ys h n r → IsSame (desk_of v zs k s l) (desk_of w ys m t o)
    same_after zs (Ok u) l o e came = subst (λ (b : Bool). IsSame (desk_of v zs k s l) (desk_of w ys m b o)) (sym e) (same_told v w zs ys k m s l o came.2.same)
    same_after zs (Err Deep) l o e came = absurd came
    same_after zs (Err StoreFull) l o e came = subst (λ (b : Bool). IsSame (desk_of v zs k s l) (desk_of w ys m b o)) (sym e) (same_told v w zs ys k m s l o came.1.same)
    same_after zs (Err Worn) l o e came = subst (λ (b : Bool). IsSame (desk_of v zs k s l) (desk_of w ys m b o)) (sym e) (same_worn v w zs ys k m s l o came.1.same came.2)
