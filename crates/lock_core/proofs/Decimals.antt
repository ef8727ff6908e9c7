-- A number in decimal ends with its last digit.
use Rattle.std.proofs.Common.{◌≡◌, ℕ, ◌+◌, ◌<◌, ◌≤◌, ◌^◌, ◌/◌, ◌%◌, List, [], ◌∷◌, ◌++◌, length, refl, sym, ap, ◌∙◌, arith, length-append, ⊎_elim, Bool, ne_eqb}
use Rattle.std.specs.Prelude.{◌==◌, IsTrue}
use Rattle.std.specs.Fmt.{decimal}
use Rattle.std.proofs.lemmas.Fmt.{decimal_digit, decimal_step}
use Rattle.std.proofs.lemmas.Bool.{cases_lt}

not_empty : (xs : List ℕ) (x : ℕ) → xs ++ x ∷ [] ≡ [] → ⊥
not_empty xs x e = let l = ap length e in let m = length-append xs (x ∷ []) in omega arith

pub same_ends : (xs ys : List ℕ) (x y : ℕ) → xs ++ x ∷ [] ≡ ys ++ y ∷ [] → (xs ≡ ys) × (x ≡ y)
same_ends [] [] x y e = (refl, cc)
same_ends [] (b ∷ ys) x y e = let t : ys ++ y ∷ [] ≡ [] = cc in absurd (not_empty ys y t)
same_ends (a ∷ xs) [] x y e = let t : xs ++ x ∷ [] ≡ [] = cc in absurd (not_empty xs x t)
same_ends (a ∷ xs) (b ∷ ys) x y e = let t : xs ++ x ∷ [] ≡ ys ++ y ∷ [] = cc in let s = same_ends xs ys x y t in (cc, s.1)

-- the text of a number, by its last digit
pub digit_ends : (n : ℕ) (front : List ℕ) (last : ℕ) → n < 10 → front ++ last ∷ [] ≡ decimal n → (front ≡ []) × (last ≡ 48 + n % 10)
digit_ends n front last small e = let s = same_ends front [] last (48 + n) (e ∙ decimal_digit n small) in (s.0, omega arith)

pub number_ends : (n : ℕ) (front : List ℕ) (last : ℕ) → 10 ≤ n → n < 2 ^ 64 → front ++ last ∷ [] ≡ decimal n → (front ≡ decimal (n / 10)) × (last ≡ 48 + n % 10)
number_ends n front last large fits e = same_ends front (decimal (n / 10)) last (48 + n % 10) (e ∙ decimal_step n large fits)

pub last_digit : (n : ℕ) (front : List ℕ) (last : ℕ) → n < 2 ^ 64 → front ++ last ∷ [] ≡ decimal n → last ≡ 48 + n % 10
last_digit n front last fits e = ⊎_elim (λ small. (digit_ends n front last small e).1) (λ large. (number_ends n front last large fits e).1) (cases_lt n 10)

pub has_digit : (n : ℕ) → n < 2 ^ 64 → length (decimal n) ≡ 0 → ⊥
has_digit n fits e =
    ⊎_elim (λ small. let l = ap length (decimal_digit n small) in omega arith)
    (λ large. let l = ap length (decimal_step n large fits) in let m = length-append (decimal (n / 10)) ((48 + n % 10) ∷ []) in omega arith) (cases_lt n 10)

-- a text that ends with the only digit of a number is that number where nothing stands before
pub one_digit : (n : ℕ) (text front : List ℕ) (last : ℕ) (b : Bool) → n < 10 → text ≡ front ++ last ∷ [] → last ≡ 48 + n % 10 → b ≡ (length front == 0)
    → (IsTrue b → text ≡ decimal n) × (text ≡ decimal n → IsTrue b)
one_digit n text [] last b small e digit is = ((λ _. let same : last ≡ 48 + n = omega arith in e ∙ (ap (λ (d : ℕ). d ∷ []) same ∙ sym (decimal_digit n small))), λ _. is)
one_digit n text (d ∷ front) last b small e digit is = ((λ h. let f = sym (ne_eqb (length (d ∷ front)) 0 (λ z. omega arith)) ∙ (sym is ∙ h) in absurd (grind arith)), λ g. let s = digit_ends n (d ∷ front) last small (sym e ∙ g) in absurd (grind arith))
