-- What begins with a hyphen is no value, and a word names an option only where it begins with two.
use Rattle.std.proofs.Common.{◌≡◌, ℕ, suc, ◌+◌, ◌==◌, Bool, true, false, cond, not, ◌&&◌, ◌||◌, List, [], ◌∷◌, length, take, drop, Option, Some, None, refl, sym, ap, subst, ◌∙◌, arith, eqb-true, ne_eqb, false-eqb, nat_lt}
use Rattle.std.specs.Prelude.{option_and_then, bytes_eq}
use Rattle.std.specs.List.{list_any, position_or_len}
use Rattle.clap.specs.Lexer.{long_of, long_of_rest, short_of, short_of_rest, strip_byte, name_and_value}
use Rattle.settings.specs.declared.options.OptionName.{OptionName}
use Rattle.settings.specs.Words.{Text, names, name_of, stands_alone, takes_value, option_named, before_equals_sign, after_equals_sign, is_equals_sign, is_value, is_number}
use Rattle.settings.proofs.Basics.{and_none, none_passes}

-- ---- what stands before and after an equals sign, behind a byte that is none

before_next : (x : ℕ) (xs : Text) → is_equals_sign x ≡ false → before_equals_sign (x ∷ xs) ≡ x ∷ before_equals_sign xs
before_next x xs e =
    let n = position_or_len is_equals_sign xs in
    let one : 1 + n ≡ suc n = omega arith in
    ap (λ b. take (cond (not b) (1 + n) 0) (x ∷ xs)) e ∙ ap (λ k. take k (x ∷ xs)) one

after_next : (x : ℕ) (xs : Text) → is_equals_sign x ≡ false → after_equals_sign (x ∷ xs) ≡ after_equals_sign xs
after_next x xs e =
    let n = position_or_len is_equals_sign xs in
    let more : (1 + n) + 1 ≡ suc (n + 1) = omega arith in
    ap (λ b. cond (b || list_any is_equals_sign xs) (Some (drop (cond (not b) (1 + n) 0 + 1) (x ∷ xs))) None) e
    ∙ ap (λ k. cond (list_any is_equals_sign xs) (Some (drop k (x ∷ xs))) None) more

-- ---- a word that `clap` reads as a long option

-- the word is a name and a value behind two hyphens
pub record IsLong (word name : Text) (value : Option Text) : Type 0 where
  pub before : before_equals_sign word ≡ 45 ∷ 45 ∷ name
  pub after : after_equals_sign word ≡ value
  pub begins : strip_byte 45 word ≡ None → ⊥

long_here : (zs : Text) → IsLong (45 ∷ 45 ∷ zs) (name_and_value zs).0 (name_and_value zs).1
long_here zs = record {
  before = before_next 45 (45 ∷ zs) refl ∙ ap (λ t. 45 ∷ t) (before_next 45 zs refl);
  after = after_next 45 (45 ∷ zs) refl ∙ after_next 45 zs refl;
  begins = λ n. cc;
}

long_third : (x y : ℕ) (ys : Text) (p : Text × Option Text) (c : Bool) → (x == 45) ≡ true → (y == 45) ≡ c → option_and_then long_of_rest (cond c (Some ys) None) ≡ Some p → IsLong (x ∷ y ∷ ys) p.0 p.1
long_third x y ys p false s t e = cc
long_third x y [] p true s t e = cc
long_third x y (z ∷ zs) p true s t e =
    let same : name_and_value (z ∷ zs) ≡ p = cc in
    subst (λ a. IsLong (a ∷ y ∷ z ∷ zs) p.0 p.1) (sym (eqb-true x 45 s))
    (subst (λ b. IsLong (45 ∷ b ∷ z ∷ zs) p.0 p.1) (sym (eqb-true y 45 t))
    (subst (λ (q : Text × Option Text). IsLong (45 ∷ 45 ∷ z ∷ zs) q.0 q.1) same (long_here (z ∷ zs))))

long_second : (x : ℕ) (xs : Text) (p : Text × Option Text) (b : Bool) → (x == 45) ≡ b → option_and_then long_of_rest (option_and_then (strip_byte 45) (cond b (Some xs) None)) ≡ Some p → IsLong (x ∷ xs) p.0 p.1
long_second x xs p false s e = cc
long_second x [] p true s e = cc
long_second x (y ∷ ys) p true s e = long_third x y ys p (y == 45) s refl e

pub long_is : (word : Text) (p : Text × Option Text) → long_of word ≡ Some p → IsLong word p.0 p.1
long_is [] p e = cc
long_is (x ∷ xs) p e = long_second x xs p (x == 45) refl e

-- a word that `clap` reads as short options begins with a hyphen
pub short_begins : (word flags : Text) → short_of word ≡ Some flags → strip_byte 45 word ≡ None → ⊥
short_begins word flags e n = let bad : None ≡ Some flags = ap (option_and_then short_of_rest) (sym n) ∙ e in cc

-- ---- a text that begins with a hyphen is no value

no_number : (xs : Text) → is_number (45 ∷ xs) ≡ false
no_number xs = and_none (nat_lt 0 (length (45 ∷ xs)))

no_value : (o : OptionName) (word : Text) → takes_value o ≡ true → is_number word ≡ false → is_value o word ≡ false
no_value o word t e = rw (t, e) refl

pub begins_no_value : (o : OptionName) (word : Text) → takes_value o ≡ true → (strip_byte 45 word ≡ None → ⊥) → is_value o word ≡ false
begins_no_value o [] t h = absurd (h refl)
begins_no_value o (x ∷ xs) t h = go (x == 45) refl
  where
    go : (b : Bool) → (x == 45) ≡ b → is_value o (x ∷ xs) ≡ false
    go true s = no_value o (x ∷ xs) t (subst (λ a. is_number (a ∷ xs) ≡ false) (sym (eqb-true x 45 s)) (no_number xs))
    go false s = absurd (h (ap (λ b. cond b (Some xs) None) s))

-- ---- other words name no option

first_differs : (t : Text) (y : ℕ) (ys : Text) → (y == 45) ≡ false → bytes_eq (45 ∷ t) (before_equals_sign (y ∷ ys)) ≡ false
first_differs t y ys s = go (is_equals_sign y) refl
  where
    go : (b : Bool) → is_equals_sign y ≡ b → bytes_eq (45 ∷ t) (before_equals_sign (y ∷ ys)) ≡ false
    go true e = ap (λ b. bytes_eq (45 ∷ t) (take (cond (not b) (1 + position_or_len is_equals_sign ys) 0) (y ∷ ys))) e
    go false e =
        let apart : (45 == y) ≡ false = ne_eqb 45 y (λ q. false-eqb y 45 (sym s) (sym q)) in
        ap (bytes_eq (45 ∷ t)) (before_next y ys e) ∙ ap (λ b. b && bytes_eq t (before_equals_sign ys)) apart

name_differs : (t : Text) (word : Text) → long_of word ≡ None → bytes_eq word (45 ∷ 45 ∷ []) ≡ false → bytes_eq (45 ∷ 45 ∷ t) (before_equals_sign word) ≡ false
name_differs t [] e d = refl
name_differs t (x ∷ xs) e d = first (x == 45) refl xs e d
  where
    second : (c : Bool) (y : ℕ) (ys : Text) → (y == 45) ≡ c → option_and_then long_of_rest (cond c (Some ys) None) ≡ None → (c && bytes_eq ys []) ≡ false → bytes_eq (45 ∷ t) (before_equals_sign (y ∷ ys)) ≡ false
    second true y [] s e d = cc
    second true y (z ∷ zs) s e d = cc
    second false y ys s e d = first_differs t y ys s

    first : (b : Bool) → (x == 45) ≡ b → (ys : Text) → option_and_then long_of_rest (option_and_then (strip_byte 45) (cond b (Some ys) None)) ≡ None → (b && bytes_eq ys (45 ∷ [])) ≡ false → bytes_eq (45 ∷ 45 ∷ t) (before_equals_sign (x ∷ ys)) ≡ false
    first false s ys e d = first_differs (45 ∷ t) x ys s
    first true s [] e d = subst (λ a. bytes_eq (45 ∷ 45 ∷ t) (before_equals_sign (a ∷ [])) ≡ false) (sym (eqb-true x 45 s)) (ap (bytes_eq (45 ∷ 45 ∷ t)) (before_next 45 [] refl))
    first true s (y ∷ ys) e d =
        subst (λ a. bytes_eq (45 ∷ 45 ∷ t) (before_equals_sign (a ∷ y ∷ ys)) ≡ false) (sym (eqb-true x 45 s))
        (ap (bytes_eq (45 ∷ 45 ∷ t)) (before_next 45 (y ∷ ys) refl) ∙ second (y == 45) y ys refl e d)

pub unnamed : (options : List OptionName) (word : Text) → long_of word ≡ None → bytes_eq word (45 ∷ 45 ∷ []) ≡ false → option_named options (before_equals_sign word) ≡ None
unnamed options word e d = none_passes (λ o. names o (before_equals_sign word))
    (λ o. ap (λ b. not (stands_alone o) && b) (name_differs (name_of o) word e d) ∙ and_none (not (stands_alone o))) options
