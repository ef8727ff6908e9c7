-- How entries are put into a history.
use Rattle.std.proofs.Common.{◌≡◌, ℕ, zero, suc, ◌+◌, ◌<◌, Bool, true, false, List, [], ◌∷◌, ◌++◌, length, refl, sym, ap, ◌∙◌, arith, replicate}
use Rattle.std.specs.Prelude.{if◌then◌else◌, ◌==◌, nat_lt, not, ◌||◌, ◌&&◌}
use Rattle.std.proofs.lemmas.Bool.Decides.{nat_tests}
use Rattle.std.proofs.lemmas.Bool.{cond-true, cond-false}
use Rattle.history_core.specs.Entry.{Entry, place}
use Rattle.history_core.specs.Chronicle.{History, precedes, put, earlier, later, put_all, put_each, chronicle, noted}

-- The order, as numbers: a and b are the places, i and j the callers.
abbrev pub before : ℕ → ℕ → ℕ → ℕ → Bool
before a i b j = nat_lt a b || (a == b && nat_lt i j)

pub total : (a i b j : ℕ) → (i ≡ j → ⊥) → before b j a i ≡ not (before a i b j)
total a i b j ne = grind (arith, nat_tests)

pub asym : (a i b j : ℕ) → before a i b j ≡ true → before b j a i ≡ false
asym a i b j h = grind (arith, nat_tests)

pub through : (a i b j c k : ℕ) → before a i b j ≡ true → before c k b j ≡ false → before a i c k ≡ true
through a i b j c k h n = grind (arith, nat_tests)

pub along : (a i b j c k : ℕ) → before a i b j ≡ true → before b j c k ≡ true → before a i c k ≡ true
along a i b j c k h n = grind (arith, nat_tests)

pub put_before : (x y : ℕ × Entry) (ys : History) → precedes x y ≡ true → put x (y ∷ ys) ≡ x ∷ y ∷ ys
put_before x y ys h = cond-true (precedes x y) (x ∷ y ∷ ys) (y ∷ put x ys) h

pub put_after : (x y : ℕ × Entry) (ys : History) → precedes x y ≡ false → put x (y ∷ ys) ≡ y ∷ put x ys
put_after x y ys h = cond-false (precedes x y) (x ∷ y ∷ ys) (y ∷ put x ys) h

-- entries of different callers may be put in in either order
put_both : (x y : ℕ × Entry) (l : History) → (x.0 ≡ y.0 → ⊥) → put y (put x l) ≡ put x (put y l)
put_both x y [] ne = go (precedes x y) refl
  where
    go : (b : Bool) → precedes x y ≡ b → put y (x ∷ []) ≡ put x (y ∷ [])
    go true e = put_after y x [] (total (place x.1) x.0 (place y.1) y.0 ne ∙ ap not e) ∙ sym (put_before x y [] e)
    go false e = put_before y x [] (total (place x.1) x.0 (place y.1) y.0 ne ∙ ap not e) ∙ sym (put_after x y [] e)
put_both x y (z ∷ l) ne = go (precedes x z) (precedes y z) (precedes x y) refl refl refl (put_both x y l ne)
  where
    back : precedes y x ≡ not (precedes x y)
    back = total (place x.1) x.0 (place y.1) y.0 ne

    go : (a b c : Bool) → precedes x z ≡ a → precedes y z ≡ b → precedes x y ≡ c → put y (put x l) ≡ put x (put y l) → put y (put x (z ∷ l)) ≡ put x (put y (z ∷ l))
    go true true true xz yz xy rest =
        ap (put y) (put_before x z l xz) ∙ put_after y x (z ∷ l) (back ∙ ap not xy) ∙ ap (λ m. x ∷ m) (put_before y z l yz)
        ∙ sym (ap (put x) (put_before y z l yz) ∙ put_before x y (z ∷ l) xy)
    go true true false xz yz xy rest =
        ap (put y) (put_before x z l xz) ∙ put_before y x (z ∷ l) (back ∙ ap not xy)
        ∙ sym (ap (put x) (put_before y z l yz) ∙ put_after x y (z ∷ l) xy ∙ ap (λ m. y ∷ m) (put_before x z l xz))
    go true false c xz yz xy rest =
        let first : precedes x y ≡ true = through (place x.1) x.0 (place z.1) z.0 (place y.1) y.0 xz yz in
        ap (put y) (put_before x z l xz) ∙ put_after y x (z ∷ l) (back ∙ ap not first) ∙ ap (λ m. x ∷ m) (put_after y z l yz)
        ∙ sym (ap (put x) (put_after y z l yz) ∙ put_before x z (put y l) xz)
    go false true c xz yz xy rest =
        let first : precedes y x ≡ true = through (place y.1) y.0 (place z.1) z.0 (place x.1) x.0 yz xz in
        let second : precedes x y ≡ false = asym (place y.1) y.0 (place x.1) x.0 first in
        ap (put y) (put_after x z l xz) ∙ put_before y z (put x l) yz
        ∙ sym (ap (put x) (put_before y z l yz) ∙ put_after x y (z ∷ l) second ∙ ap (λ m. y ∷ m) (put_after x z l xz))
    go false false c xz yz xy rest =
        ap (put y) (put_after x z l xz) ∙ put_after y z (put x l) yz ∙ ap (λ m. z ∷ m) rest
        ∙ sym (ap (put x) (put_after y z l yz) ∙ put_after x z (put y l) xz)

-- an entry of another caller may be put in before or after all of a caller's
all_then_one : (caller : ℕ) (es : List Entry) (x : ℕ × Entry) (l : History) → (x.0 ≡ caller → ⊥) → put_all caller es (put x l) ≡ put x (put_all caller es l)
all_then_one caller [] x l ne = refl
all_then_one caller (e ∷ es) x l ne = ap (put_all caller es) (put_both x (caller, e) l ne) ∙ all_then_one caller es x (put (caller, e) l) ne

-- or of all callers of higher numbers
each_then_one : (caller : ℕ) (lists : List (List Entry)) (x : ℕ × Entry) (l : History) → x.0 < caller → put_each caller lists (put x l) ≡ put x (put_each caller lists l)
each_then_one caller [] x l less = refl
each_then_one caller (es ∷ lists) x l less =
    ap (put_each (suc caller) lists) (all_then_one caller es x l (λ e. omega arith))
    ∙ each_then_one (suc caller) lists x (put_all caller es l) (omega arith)

all_of_one_more : (caller : ℕ) (es : List Entry) (e : Entry) (l : History) → put_all caller (es ++ e ∷ []) l ≡ put (caller, e) (put_all caller es l)
all_of_one_more caller [] e l = refl
all_of_one_more caller (d ∷ es) e l = all_of_one_more caller es e (put (caller, d) l)

noted_from : (first : ℕ) (lists : List (List Entry)) (k : ℕ) (e : Entry) (l : History) → k < length lists
    → put_each first (noted lists k e) l ≡ put (first + k, e) (put_each first lists l)
noted_from first [] k e l less = absurd (omega arith)
noted_from first (es ∷ lists) zero e l less =
    let here : first ≡ first + 0 = omega arith in
    ap (put_each (suc first) lists) (all_of_one_more first es e l)
    ∙ each_then_one (suc first) lists (first, e) (put_all first es l) (omega arith)
    ∙ ap (λ n. put (n, e) (put_each (suc first) lists (put_all first es l))) here
noted_from first (es ∷ lists) (suc k) e l less =
    let here : suc first + k ≡ first + suc k = omega arith in
    noted_from (suc first) lists k e (put_all first es l) (omega arith)
    ∙ ap (λ n. put (n, e) (put_each (suc first) lists (put_all first es l))) here

-- one entry more is put in at its key's place
pub noting_puts_in : (lists : List (List Entry)) (caller : ℕ) (e : Entry) → caller < length lists → chronicle (noted lists caller e) ≡ put (caller, e) (chronicle lists)
noting_puts_in lists caller e less =
    let here : 0 + caller ≡ caller = omega arith in
    noted_from 0 lists caller e [] less ∙ ap (λ n. put (n, e) (chronicle lists)) here

nothing_from : (first callers : ℕ) (l : History) → put_each first (replicate callers []) l ≡ l
nothing_from first zero l = refl
nothing_from first (suc callers) l = nothing_from (suc first) callers l

pub nothing_at_start : (callers : ℕ) → chronicle (replicate callers []) ≡ []
nothing_at_start callers = nothing_from 0 callers []

-- where an entry is put in
pub parts : (x : ℕ × Entry) (l : History) → earlier x l ++ later x l ≡ l
parts x [] = refl
parts x (y ∷ ys) = go (precedes x y) (parts x ys)
  where
    go : (b : Bool) → earlier x ys ++ later x ys ≡ ys → (if b then [] else y ∷ earlier x ys) ++ (if b then y ∷ ys else later x ys) ≡ y ∷ ys
    go true rest = refl
    go false rest = ap (λ m. y ∷ m) rest

pub put_between : (x : ℕ × Entry) (l : History) → put x l ≡ earlier x l ++ x ∷ later x l
put_between x [] = refl
put_between x (y ∷ ys) = go (precedes x y) (put_between x ys)
  where
    go : (b : Bool) → put x ys ≡ earlier x ys ++ x ∷ later x ys → (if b then x ∷ y ∷ ys else y ∷ put x ys) ≡ (if b then [] else y ∷ earlier x ys) ++ x ∷ (if b then y ∷ ys else later x ys)
    go true rest = refl
    go false rest = ap (λ m. y ∷ m) rest
