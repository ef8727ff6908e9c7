-- Texts that are joined by line feeds or spaces fall into the same lines or words again.
use Rattle.std.proofs.Common.{◌≡◌, ℕ, suc, ◌+◌, Bool, true, false, cond, List, [], ◌∷◌, ◌++◌, length, take, drop, Some, refl, ap, ap₂, ◌∙◌, arith, append_assoc}
use Rattle.std.specs.Prelude.{◌==◌, not, None, slice_get, unwrap_or}
use Rattle.std.specs.Option.{option_map}
use Rattle.term_model.proofs.Order.{both_hold}
use Rattle.log_check.specs.Words.{lines, words, before_first}
use Rattle.run_checks.specs.Parts.{at_line_feed, cut_at}
use Rattle.run_checks.specs.Endings.{line}
use Rattle.run_checks.proofs.Decimals.{is_free}

no_byte : (b : Bool) → not b ≡ true → b ≡ false
no_byte true e = absurd cc
no_byte false e = refl

pub ended : (xs ys : List ℕ) → line xs ++ ys ≡ xs ++ 10 ∷ ys
ended xs ys = append_assoc xs (10 ∷ []) ys

first_line : (xs ys : List ℕ) → is_free 10 xs ≡ true → lines (xs ++ 10 ∷ ys) ≡ xs ∷ lines ys
first_line [] ys e = refl
first_line (x ∷ xs) ys e =
    let p = both_hold (not (x == 10)) (is_free 10 xs) e in
    ap (λ b. cond b ([] ∷ lines (xs ++ 10 ∷ ys)) (before_first x (lines (xs ++ 10 ∷ ys))))
    (no_byte (x == 10) p.0)
    ∙ ap (before_first x) (first_line xs ys p.1)

pub line_is_first : (xs ys : List ℕ) → is_free 10 xs ≡ true → lines (line xs ++ ys) ≡ xs ∷ lines ys
line_is_first xs ys e = ap lines (ended xs ys) ∙ first_line xs ys e

pub first_word : (xs ys : List ℕ) → is_free 32 xs ≡ true → words (xs ++ 32 ∷ ys) ≡ xs ∷ words ys
first_word [] ys e = refl
first_word (x ∷ xs) ys e =
    let p = both_hold (not (x == 32)) (is_free 32 xs) e in
    ap (λ b. cond b ([] ∷ words (xs ++ 32 ∷ ys)) (before_first x (words (xs ++ 32 ∷ ys))))
    (no_byte (x == 32) p.0)
    ∙ ap (before_first x) (first_word xs ys p.1)

pub only_word : (xs : List ℕ) → is_free 32 xs ≡ true → words xs ≡ xs ∷ []
only_word [] e = refl
only_word (x ∷ xs) e =
    let p = both_hold (not (x == 32)) (is_free 32 xs) e in
    ap (λ b. cond b ([] ∷ words xs) (before_first x (words xs))) (no_byte (x == 32) p.0)
    ∙ ap (before_first x) (only_word xs p.1)

first_cut : (xs ys : List ℕ) → is_free 10 xs ≡ true → at_line_feed (xs ++ 10 ∷ ys) ≡ Some (xs, ys)
first_cut [] ys e = refl
first_cut (x ∷ xs) ys e =
    let p = both_hold (not (x == 10)) (is_free 10 xs) e in
    ap (λ b. cond b (Some ([], xs ++ 10 ∷ ys))
    (option_map (λ (q : List ℕ × List ℕ). (x ∷ q.0, q.1)) (at_line_feed (xs ++ 10 ∷ ys))))
    (no_byte (x == 10) p.0)
    ∙ ap (option_map (λ (q : List ℕ × List ℕ). (x ∷ q.0, q.1))) (first_cut xs ys p.1)

pub line_is_cut : (xs ys : List ℕ) → is_free 10 xs ≡ true
    → at_line_feed (line xs ++ ys) ≡ Some (xs, ys)
line_is_cut xs ys e = ap at_line_feed (ended xs ys) ∙ first_cut xs ys e

feed_at : (xs ys : List ℕ) → slice_get (xs ++ 10 ∷ ys) (length xs) ≡ Some 10
feed_at [] ys = refl
feed_at (x ∷ xs) ys = feed_at xs ys

before_feed : (xs ys : List ℕ) → take (length xs) (xs ++ 10 ∷ ys) ≡ xs
before_feed [] ys = refl
before_feed (x ∷ xs) ys = ap (λ r. x ∷ r) (before_feed xs ys)

after_feed : (xs ys : List ℕ) → drop (suc (length xs)) (xs ++ 10 ∷ ys) ≡ ys
after_feed [] ys = refl
after_feed (x ∷ xs) ys = after_feed xs ys

pub text_is_cut : (xs ys : List ℕ) → cut_at (length xs) (line xs ++ ys) ≡ Some (xs, ys)
text_is_cut xs ys =
    let whole = xs ++ 10 ∷ ys in
    let one : length xs + 1 ≡ suc (length xs) = omega arith in
    ap (cut_at (length xs)) (ended xs ys)
    ∙ ap (λ o. cond (unwrap_or o 0 == 10)
    (Some (take (length xs) whole, drop (length xs + 1) whole)) None) (feed_at xs ys)
    ∙ ap₂ (λ (a b : List ℕ). Some (a, b)) (before_feed xs ys)
    (ap (λ k. drop k whole) one ∙ after_feed xs ys)
