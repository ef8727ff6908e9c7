-- A number in decimal is read again.
use Rattle.std.proofs.Common.{◌≡◌, ℕ, ◌+◌, ◌*◌, ◌-◌, ◌/◌, ◌%◌, ◌^◌, ◌<◌, ◌≤◌, Bool, true, false, List, [], ◌∷◌, ◌++◌, Some, refl, ap, ap₂, ◌∙◌, arith, ne_eqb, le-leb, leb-true}
use Rattle.std.specs.Prelude.{◌&&◌, ◌==◌, not, nat_le, None, if◌then◌else◌}
use Rattle.std.specs.Fmt.{decimal}
use Rattle.std.specs.List.{list_all}
use Rattle.std.proofs.lemmas.Fmt.{decimal_by_steps_wide}
use Rattle.std.proofs.lemmas.List.Folds.{list_all-append}
use Rattle.term_model.proofs.Order.{both_hold}
use Rattle.log_check.specs.Words.{number_in, has_no_leading_zero, is_digit, with_digits}
use Rattle.log_check.proofs.Scanning.{with_digits-append}

-- no byte is b
abbrev pub is_free : ℕ → List ℕ → Bool
is_free b bytes = list_all (λ x. not (x == b)) bytes

-- the first digit isn't 0
abbrev leads : List ℕ → Bool
leads [] = false
leads (d ∷ ds) = not (d == 48)

-- digits of a number, of which the first is 0 only for 0
record IsSpelling (n : ℕ) (ds : List ℕ) : Type 0 where
  digits : list_all is_digit ds ≡ true
  value : with_digits 0 ds ≡ n
  canonical : has_no_leading_zero ds ≡ true
  first : 0 < n → leads ds ≡ true

is_one_digit : (d : ℕ) → 48 ≤ d → d ≤ 57 → is_digit d ≡ true
is_one_digit d low high = λ i. le-leb 48 d low i && le-leb d 57 high i

still_leads : (ds : List ℕ) (d : ℕ) → leads ds ≡ true → leads (ds ++ d ∷ []) ≡ true
still_leads [] d e = absurd cc
still_leads (c ∷ ds) d e = e

still_canonical : (ds : List ℕ) (d : ℕ) → leads ds ≡ true
    → has_no_leading_zero (ds ++ d ∷ []) ≡ true
still_canonical [] d e = absurd cc
still_canonical (c ∷ []) d e = e
still_canonical (c ∷ b ∷ ds) d e = e

one_digit : (n : ℕ) → n < 10 → IsSpelling n ((48 + n) ∷ [])
one_digit n small = record {
  digits = λ i. is_one_digit (48 + n) (omega arith) (omega (arith, small)) i && true;
  value = omega arith;
  canonical = refl;
  first = λ more. ap not (ne_eqb (48 + n) 48 (λ e. omega (arith, e, more)));
}

one_more : (n : ℕ) (ds : List ℕ) → 10 ≤ n → IsSpelling (n / 10) ds
    → IsSpelling n (ds ++ ((48 + n % 10) ∷ []))
one_more n ds large s =
    let leading : leads ds ≡ true = s.first (omega (arith, large)) in
    record {
      digits = list_all-append is_digit ds ((48 + n % 10) ∷ [])
          ∙ (λ i. s.digits i && (is_one_digit (48 + n % 10) (omega arith) (omega arith) i && true));
      value = with_digits-append 0 ds ((48 + n % 10) ∷ [])
          ∙ ap (λ v. v * 10 + (48 + n % 10 - 48)) s.value ∙ omega arith;
      canonical = still_canonical ds (48 + n % 10) leading;
      first = λ more. still_leads ds (48 + n % 10) leading;
    }

spelling : (n : ℕ) → n < 10 ^ 64 → IsSpelling n (decimal n)
spelling = decimal_by_steps_wide IsSpelling one_digit one_more

pub number_is_read : (n : ℕ) → n < 10 ^ 64 → number_in (decimal n) ≡ Some n
number_is_read n small =
    let s = spelling n small in
    ap₂ (λ (a b : Bool). if a && b then Some (with_digits 0 (decimal n)) else None) s.canonical
    s.digits ∙ ap (λ v. Some v) s.value

digit_apart : (b d : ℕ) → b < 48 → is_digit d ≡ true → not (d == b) ≡ true
digit_apart b d low e =
    let p = leb-true 48 d (both_hold (nat_le 48 d) (nat_le d 57) e).0 in
    ap not (ne_eqb d b (λ s. omega (arith, s, p, low)))

digits_free : (b : ℕ) → b < 48 → (ds : List ℕ) → list_all is_digit ds ≡ true → is_free b ds ≡ true
digits_free b low [] e = refl
digits_free b low (d ∷ ds) e =
    let p = both_hold (is_digit d) (list_all is_digit ds) e in
    λ i. digit_apart b d low p.0 i && digits_free b low ds p.1 i

-- neither a space nor a line feed
pub decimal_free : (b n : ℕ) → b < 48 → n < 10 ^ 64 → is_free b (decimal n) ≡ true
decimal_free b n low small = digits_free b low (decimal n) (spelling n small).digits
