-- The callers' lists when one has noted one entry more.
use Rattle.std.proofs.Common.{◌≡◌, ℕ, ◌<◌, List, [], ◌∷◌, ◌++◌, length, get_or, set, sym, ap, ◌∙◌, subst, ◌⊎◌, inl, inr, ◌↔◌, get_or-set_same, get_or-set_other}
use Rattle.std.specs.Prelude.{Contains, map}
use Rattle.std.proofs.lemmas.Bool.{cases_eq}
use Rattle.std.proofs.lemmas.List.{length-set, map-set, get_or-map}
use Rattle.std.proofs.lemmas.List.Elements.{Contains-append_left, Contains-push, Contains-push_cases}
use Rattle.history_core.specs.Entry.{Entry}
use Rattle.history_core.specs.Chronicle.{entries_of, noted, IsNoted}

pub own_noted : (lists : List (List Entry)) (caller : ℕ) (e : Entry) → caller < length lists → entries_of (noted lists caller e) caller ≡ entries_of lists caller ++ e ∷ []
own_noted lists caller e less = get_or-set_same lists caller (entries_of lists caller ++ e ∷ []) [] less

pub other_noted : (lists : List (List Entry)) (caller : ℕ) (e : Entry) (other : ℕ) → (other ≡ caller → ⊥) → entries_of (noted lists caller e) other ≡ entries_of lists other
other_noted lists caller e other ne = get_or-set_other lists caller other (entries_of lists caller ++ e ∷ []) [] ne

pub as_many : (lists : List (List Entry)) (caller : ℕ) (e : Entry) → length (noted lists caller e) ≡ length lists
as_many lists caller e = length-set lists caller (entries_of lists caller ++ e ∷ [])

pub noted_cases : (lists : List (List Entry)) (caller : ℕ) (e : Entry) (y : ℕ × Entry) → caller < length lists → IsNoted (noted lists caller e) y → ((caller, e) ≡ y) ⊎ IsNoted lists y
noted_cases lists caller e y less k = go (cases_eq y.0 caller)
  where
    there : y.0 < length lists
    there = subst (λ (n : ℕ). y.0 < n) (as_many lists caller e) k.present

    mine : y.0 ≡ caller → Contains (entries_of lists caller) y.1 ⊎ (e ≡ y.1) → ((caller, e) ≡ y) ⊎ IsNoted lists y
    mine same (inl c) = inr record { present = there; own = subst (λ (n : ℕ). Contains (entries_of lists n) y.1) (sym same) c }
    mine same (inr is) = inl (λ i. (sym same i, is i))

    go : (y.0 ≡ caller) ⊎ (y.0 ≡ caller → ⊥) → ((caller, e) ≡ y) ⊎ IsNoted lists y
    go (inl same) = mine same (Contains-push_cases (entries_of lists caller) e y.1
        (subst (λ es. Contains es y.1) (own_noted lists caller e less) (subst (λ (n : ℕ). Contains (entries_of (noted lists caller e) n) y.1) same k.own)))
    go (inr ne) = inr record { present = there; own = subst (λ es. Contains es y.1) (other_noted lists caller e y.0 ne) k.own }

pub noted_here : (lists : List (List Entry)) (caller : ℕ) (e : Entry) → caller < length lists → IsNoted (noted lists caller e) (caller, e)
noted_here lists caller e less = record {
  present = subst (λ (n : ℕ). caller < n) (sym (as_many lists caller e)) less;
  own = subst (λ es. Contains es e) (sym (own_noted lists caller e less)) (Contains-push (entries_of lists caller) e);
}

pub noted_stays : (lists : List (List Entry)) (caller : ℕ) (e : Entry) (y : ℕ × Entry) → caller < length lists → IsNoted lists y → IsNoted (noted lists caller e) y
noted_stays lists caller e y less k = record { present = subst (λ (n : ℕ). y.0 < n) (sym (as_many lists caller e)) k.present; own = go (cases_eq y.0 caller) }
  where
    go : (y.0 ≡ caller) ⊎ (y.0 ≡ caller → ⊥) → Contains (entries_of (noted lists caller e) y.0) y.1
    go (inl same) = subst (λ (n : ℕ). Contains (entries_of (noted lists caller e) n) y.1) (sym same)
        (subst (λ es. Contains es y.1) (sym (own_noted lists caller e less)) (Contains-append_left (entries_of lists caller) (e ∷ []) y.1
        (subst (λ (n : ℕ). Contains (entries_of lists n) y.1) same k.own)))
    go (inr ne) = subst (λ es. Contains es y.1) (sym (other_noted lists caller e y.0 ne)) k.own

pub noted_is_one_more : (lists : List (List Entry)) (caller : ℕ) (e : Entry) (y : ℕ × Entry) → caller < length lists → IsNoted (noted lists caller e) y ↔ (((caller, e) ≡ y) ⊎ IsNoted lists y)
noted_is_one_more lists caller e y less = (noted_cases lists caller e y less, back)
  where
    back : ((caller, e) ≡ y) ⊎ IsNoted lists y → IsNoted (noted lists caller e) y
    back (inl same) = subst (IsNoted (noted lists caller e)) same (noted_here lists caller e less)
    back (inr k) = noted_stays lists caller e y less k

-- For callers kept as records: one of them has noted one entry more.
pub noted_by : {X : Type 0} (f : X → List Entry) (seats : List X) (caller : ℕ) (x d : X) (e : Entry) → caller < length seats → f x ≡ f (get_or seats caller d) ++ e ∷ []
    → map f (set seats caller x) ≡ noted (map f seats) caller e
noted_by f seats caller x d e less one_more =
    map-set f seats caller x ∙ ap (set (map f seats) caller) (one_more ∙ ap (λ es. es ++ e ∷ []) (sym (get_or-map f seats caller d [] less)))
