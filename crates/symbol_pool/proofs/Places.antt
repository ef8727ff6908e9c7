-- Places in lists of different things.
use Rattle.std.proofs.Common.{◌≡◌, ℕ, ◌<◌, ◌≤◌, Bool, true, false, cond, List, length, get_or, slice_get, nat_lt, position, Option, Some, None, refl, sym, ap, subst, ◌∙◌, true≢false, arith, [], ◌∷◌, ◌++◌, zero, suc, IfNone, OnErr, Result, Ok, Err}
use Rattle.std.specs.List.{IsDistinct, position_or_len}
use Rattle.std.proofs.lemmas.Option.{slice_get_within, get_or_from_slice_get}
use Rattle.std.proofs.lemmas.Map.Keys.{apart_from_distinct}
use Rattle.std.proofs.lemmas.List.Quantifiers.{position-Some}
use Rattle.std.proofs.lemmas.List.Sums.{fails_before_first}
use Rattle.std.proofs.lemmas.Bool.{ltb-false}

-- equal things among different ones are at one place
pub distinct_once : {K : Type 0} (e : K → K → Bool) (ks : List K) (i j : ℕ) (v w : K) →
    IsDistinct e ks → slice_get ks i ≡ Some v → slice_get ks j ≡ Some w → e v w ≡ true → e w v ≡ true → i ≡ j
distinct_once {K} e ks i j v w d a b ab ba =
    let li = slice_get_within ks i v a in
    let lj = slice_get_within ks j w b in
    let gi = get_or_from_slice_get ks i v v a in
    let gj = get_or_from_slice_get ks j w v b in
    let no : (b : Bool) → b ≡ true → b ≡ false → ⊥ = λ b t f. true≢false (sym t ∙ f) in
    let P : K → K → Type 0 = λ x y. e x y ≡ false in
    let lt : i < j → ⊥ = λ h. no (e v w) ab (subst (λ y. P v y) gj (subst (λ x. P x (get_or ks j v)) gi (apart_from_distinct e ks i j v d h lj))) in
    let gt : j < i → ⊥ = λ h. no (e w v) ba (subst (λ y. P w y) gi (subst (λ x. P x (get_or ks i v)) gj (apart_from_distinct e ks j i v d h li))) in
    omega (arith, lt, gt)

-- where there is no place, nothing passes
pub none_at : {X : Type 0} (p : X → Bool) (xs : List X) (i : ℕ) (x : X) → position p xs ≡ None → slice_get xs i ≡ Some x → p x ≡ false
none_at {X} p xs i x none at = subst (λ y. p y ≡ false) (get_or_from_slice_get xs i x x at) (fails_before_first p xs i x below)
  where
    by : (b : Bool) → nat_lt (position_or_len p xs) (length xs) ≡ b → length xs ≤ position_or_len p xs
    by true e = absurd (let bad : Some (position_or_len p xs) ≡ None = sym (ap (λ b. cond b (Some (position_or_len p xs)) None) e) ∙ none in cc)
    by false e = ltb-false (position_or_len p xs) (length xs) e

    below : i < position_or_len p xs
    below = let l = slice_get_within xs i x at in let h = by _ refl in omega arith

-- what is at the place passes
pub some_at : {X : Type 0} (p : X → Bool) (xs : List X) (i : ℕ) (x : X) → position p xs ≡ Some i → slice_get xs i ≡ Some x → p x ≡ true
some_at p xs i x some at = subst (λ y. p y ≡ true) (get_or_from_slice_get xs i x x at) (position-Some p xs i x some).1

-- a place is within the list
pub within_place : {X : Type 0} (p : X → Bool) (xs : List X) (i : ℕ) → position p xs ≡ Some i → i < length xs
within_place p [] i some = absurd (let bad : None ≡ Some i = some in cc)
within_place p (x ∷ xs) i some = (position-Some p (x ∷ xs) i x some).0

-- what is so where there is none may be said of any answer
pub if_none : {X P : Type 0} (r : Option X) → P → IfNone r P
if_none None h = h
if_none (Some x) h = tt

-- things that come last move no place
pub slice_get-append : {X : Type 0} (xs ys : List X) (i : ℕ) → i < length xs → slice_get (xs ++ ys) i ≡ slice_get xs i
slice_get-append [] ys i l = absurd (omega arith)
slice_get-append (x ∷ xs) ys zero l = refl
slice_get-append (x ∷ xs) ys (suc i) l = slice_get-append xs ys i (omega arith)

-- an error may be said of any answer that has it
pub on_err : {X E P : Type 0} (r : Result X E) → P → OnErr r P
on_err (Ok x) h = tt
on_err (Err e) h = h
