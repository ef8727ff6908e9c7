-- A list in order with each caller's entries in their own order is the chronicle.
use Rattle.std.proofs.Common.{◌≡◌, ℕ, false, List, [], ◌∷◌, refl, sym, ap, ◌∙◌, subst, ◌⊎◌, inl, inr}
use Rattle.std.specs.Prelude.{Contains, not}
use Rattle.std.proofs.lemmas.Bool.{cases_eq, both_ways}
use Rattle.history_core.specs.Entry.{Entry, place}
use Rattle.history_core.specs.Chronicle.{History, precedes, chronicle, entries_of, part_of, NeverFalls, InOrder}
use Rattle.history_core.proofs.Members.{contains_here, contains_there, contains_none, contains_cases, each_at}
use Rattle.history_core.proofs.Merge.{total}
use Rattle.history_core.proofs.Chronicles.{chronicle_in_order}
use Rattle.history_core.proofs.Own.{own_part, other_part, own_order_stays}

-- an entry of a caller's part stands in the history
part_has : (caller : ℕ) (l : History) (e : Entry) → Contains (part_of caller l) e → Contains l (caller, e)
part_has caller [] e c = absurd (contains_none e c)
part_has caller (y ∷ l) e c = go (cases_eq y.0 caller) (part_has caller l e)
  where
    mine : y.0 ≡ caller → (y.1 ≡ e) ⊎ Contains (part_of caller l) e → (Contains (part_of caller l) e → Contains l (caller, e)) → Contains (y ∷ l) (caller, e)
    mine same (inl is) rest = let whole : y ≡ (caller, e) = (λ i. (same i, is i)) in subst (Contains (y ∷ l)) whole (contains_here y l)
    mine same (inr d) rest = contains_there y l (caller, e) (rest d)

    go : (y.0 ≡ caller) ⊎ (y.0 ≡ caller → ⊥) → (Contains (part_of caller l) e → Contains l (caller, e)) → Contains (y ∷ l) (caller, e)
    go (inl same) rest = mine same (contains_cases y.1 (part_of caller l) e (subst (λ es. Contains es e) (own_part caller y l same) c)) rest
    go (inr ne) rest = contains_there y l (caller, e) (rest (subst (λ es. Contains es e) (other_part caller y l ne) c))

same_head : (d e : Entry) (ds es : List Entry) → d ∷ ds ≡ e ∷ es → d ≡ e
same_head d e ds es h = cc

same_tail : (d e : Entry) (ds es : List Entry) → d ∷ ds ≡ e ∷ es → ds ≡ es
same_tail d e ds es h = cc

-- the first entry of each list is not before that of the other, unless they are one
not_crossed : (y z : ℕ × Entry) (l m : History) → InOrder (y ∷ l) → InOrder (z ∷ m) → ((caller : ℕ) → part_of caller (y ∷ l) ≡ part_of caller (z ∷ m)) → y.0 ≡ z.0
not_crossed y z l m o p same = go (cases_eq y.0 z.0)
  where
    crosses : (a b : ℕ × Entry) (k n : History) → (a.0 ≡ b.0 → ⊥) → InOrder (b ∷ n) → part_of a.0 (a ∷ k) ≡ part_of a.0 (b ∷ n) → precedes a b ≡ false
    crosses a b k n ne q is =
        let mine : a.1 ∷ part_of a.0 k ≡ part_of a.0 n = sym (own_part a.0 a k refl) ∙ is ∙ other_part a.0 b n (λ e. ne (sym e)) in
        each_at (λ x. precedes x b ≡ false) n a q.0 (part_has a.0 n a.1 (subst (λ es. Contains es a.1) mine (contains_here a.1 (part_of a.0 k))))

    go : (y.0 ≡ z.0) ⊎ (y.0 ≡ z.0 → ⊥) → y.0 ≡ z.0
    go (inl e) = e
    go (inr ne) =
        let one : precedes y z ≡ false = crosses y z l m ne p (same y.0) in
        let two : precedes z y ≡ false = crosses z y m l (λ e. ne (sym e)) o (sym (same z.0)) in
        absurd (both_ways (precedes z y) two (total (place y.1) y.0 (place z.1) z.0 ne ∙ ap not one))

pub only_one : (l m : History) → InOrder l → InOrder m → ((caller : ℕ) → part_of caller l ≡ part_of caller m) → l ≡ m
only_one [] [] o p same = refl
only_one [] (z ∷ m) o p same = let h : [] ≡ z.1 ∷ part_of z.0 m = same z.0 ∙ own_part z.0 z m refl in cc
only_one (y ∷ l) [] o p same = let h : y.1 ∷ part_of y.0 l ≡ [] = sym (own_part y.0 y l refl) ∙ same y.0 in cc
only_one (y ∷ l) (z ∷ m) o p same =
    let caller : y.0 ≡ z.0 = not_crossed y z l m o p same in
    let own : y.1 ∷ part_of y.0 l ≡ z.1 ∷ part_of y.0 m = sym (own_part y.0 y l refl) ∙ same y.0 ∙ own_part y.0 z m (sym caller) in
    let entry : y.1 ≡ z.1 = same_head y.1 z.1 (part_of y.0 l) (part_of y.0 m) own in
    let whole : y ≡ z = (λ i. (caller i, entry i)) in
    ap (λ x. x ∷ l) whole ∙ ap (λ k. z ∷ k) (only_one l m o.1 p.1 (λ c. rest c caller own (cases_eq y.0 c)))
  where
    rest : (c : ℕ) → y.0 ≡ z.0 → y.1 ∷ part_of y.0 l ≡ z.1 ∷ part_of y.0 m → (y.0 ≡ c) ⊎ (y.0 ≡ c → ⊥) → part_of c l ≡ part_of c m
    rest c caller own (inl is) = subst (λ (k : ℕ). part_of k l ≡ part_of k m) is (same_tail y.1 z.1 (part_of y.0 l) (part_of y.0 m) own)
    rest c caller own (inr ne) = sym (other_part c y l ne) ∙ same c ∙ other_part c z m (λ e. ne (caller ∙ e))

pub chronicle_is_the_one : (lists : List (List Entry)) (l : History) → ((caller : ℕ) → NeverFalls (entries_of lists caller)) → InOrder l
    → ((caller : ℕ) → part_of caller l ≡ entries_of lists caller) → l ≡ chronicle lists
chronicle_is_the_one lists l falls order own = only_one l (chronicle lists) order (chronicle_in_order lists) (λ c. own c ∙ sym (own_order_stays lists c (falls c)))
