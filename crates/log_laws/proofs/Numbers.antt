-- Numbers in decimal are read back.
use Rattle.std.proofs.Common.{◌≡◌, ◌∙◌, ℕ, zero, suc, ◌+◌, ◌-◌, ◌*◌, ◌^◌, ◌<◌, ◌≤◌, ◌%◌, ◌&&◌, Bool, true, false, not, cond, List, [], ◌∷◌, ◌++◌, get_or, Option, Some, None, refl, ap, arith}
use Rattle.std.specs.Prelude.{decimal, nat_lt, nat_le, option_and_then}
use Rattle.std.specs.List.{AllByRecursion, list_all}
use Rattle.std.proofs.lemmas.Bool.{ne_eqb, lt-ltb, le-leb}
use Rattle.std.proofs.lemmas.Fmt.{decimal_by_steps, decimal_digit, first_decimal}
use Rattle.log_check.specs.Words.{is_digit, has_no_leading_zero, with_digits, number_in}
use Rattle.log_check.specs.Form.{number_below}

abbrev pub IsDigit : ℕ → Type 0
IsDigit d = (48 ≤ d) × (d ≤ 57)

-- digits that are those of a number
abbrev pub AreDigitsOf : ℕ → List ℕ → Type 0
AreDigitsOf n ds = AllByRecursion IsDigit ds × (with_digits 0 ds ≡ n)

one_digit_more : (m : ℕ) (ds : List ℕ) (d : ℕ) → with_digits m (ds ++ d ∷ []) ≡ with_digits m ds * 10 + (d - 48)
one_digit_more m [] d = refl
one_digit_more m (e ∷ ds) d = one_digit_more (m * 10 + (e - 48)) ds d

all_digits : (ds : List ℕ) (d : ℕ) → AllByRecursion IsDigit ds → IsDigit d → AllByRecursion IsDigit (ds ++ d ∷ [])
all_digits [] d a i = (i, tt)
all_digits (e ∷ ds) d a i = (a.0, all_digits ds d a.1 i)

pub digits_of : (n : ℕ) → n < 2 ^ 64 → AreDigitsOf n (decimal n)
digits_of n small = decimal_by_steps AreDigitsOf
    (λ k l. (((omega arith, omega arith), tt), omega arith))
    (λ k ds l is. (
      all_digits ds (48 + k % 10) is.0 (omega arith, omega arith),
      one_digit_more 0 ds (48 + k % 10) ∙ (let e = is.1 in omega (arith, e)),
    ))
    n small

both : (a b : Bool) → a ≡ true → b ≡ true → a && b ≡ true
both true b e f = f
both false b e f = absurd (cc)

digit_is : (d : ℕ) → IsDigit d → is_digit d ≡ true
digit_is d i = both (nat_le 48 d) (nat_le d 57) (le-leb 48 d i.0) (le-leb d 57 i.1)

all_are : (ds : List ℕ) → AllByRecursion IsDigit ds → list_all is_digit ds ≡ true
all_are [] a = refl
all_are (d ∷ ds) a = both (is_digit d) (list_all is_digit ds) (digit_is d a.0) (all_are ds a.1)

leads : (ds : List ℕ) → 48 < get_or ds 0 0 → has_no_leading_zero ds ≡ true
leads [] l = absurd (omega arith)
leads (d ∷ []) l = refl
leads (d ∷ e ∷ ds) l = ap not (ne_eqb d 48 (λ same. absurd (omega (arith, l, same))))

pub no_zero : (n : ℕ) → n < 2 ^ 64 → has_no_leading_zero (decimal n) ≡ true
no_zero zero s = ap has_no_leading_zero (decimal_digit 0 (omega arith))
no_zero (suc n) s = leads (decimal (suc n)) (first_decimal (suc n) (omega arith) s)

pub number_back : (n : ℕ) → n < 2 ^ 64 → number_in (decimal n) ≡ Some n
number_back n s =
    let is = digits_of n s in
    let test = both (has_no_leading_zero (decimal n)) (list_all is_digit (decimal n)) (no_zero n s) (all_are (decimal n) is.0) in
    ap (λ (b : Bool). cond b (Some (with_digits 0 (decimal n))) None) test ∙ ap (λ (k : ℕ). Some k) is.1

pub below_back : (bound n : ℕ) → n < bound → n < 2 ^ 64 → number_below bound (decimal n) ≡ Some n
below_back bound n l s =
    ap (λ (o : Option ℕ). option_and_then (λ k. cond (nat_lt k bound) (Some k) None) o) (number_back n s)
    ∙ ap (λ (b : Bool). cond b (Some n) None) (lt-ltb n bound l)
