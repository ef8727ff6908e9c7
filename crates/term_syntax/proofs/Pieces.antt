-- What begins at a place of the bytes.
use Rattle.std.proofs.Common.{◌≡◌, ◌≤◌, ◌<◌, ◌∙◌, ℕ, ◌+◌, ◌-◌, List, [], ◌∷◌, length, drop, take, get_or, Bool, true, false, cond, refl, ap, sym, subst, arith, None, Result, Ok, Err, ◌++◌, append_assoc, leb}
use Rattle.std.proofs.lemmas.List.{drop_more, drop_all}
use Rattle.std.proofs.lemmas.Bool.{leb-true}
use Rattle.std.specs.Cmp.{first_so, second_so}
use Rattle.std.proofs.Math.Numerals.{add-one}
use Rattle.std.specs.Char.{is_ascii_digit, digit_value}
use Rattle.std.specs.Str.Parse.{AllDigits}
use Rattle.std.proofs.lemmas.Str.{digit_value_digit}
use Rattle.faults.specs.declared.refusal.Refusal.{Refusal}
use Rattle.read_faults.specs.Fault.{fault}
use Rattle.term_syntax.specs.Token.{Word, Number, Whole}
use Rattle.term_syntax.specs.declared.scanner.Role.{Role}
use Rattle.tree_text.specs.NameBytes.{continues_name}
use Rattle.term_syntax.specs.Tokens.{front_length, quoted, by_role, role_of, plain_piece, number_piece, quoted_piece, with_byte, integer_of}
use Rattle.term_syntax.specs.Shown.{plain_name, plain_at, name_read, value, value_at}
use Rattle.term_syntax.specs.Shown as shown

front_one : (p : ℕ → Bool) (b : ℕ) (bs : List ℕ) → p b ≡ true → front_length p (b ∷ bs) ≡ front_length p bs + 1
front_one p b bs h = ap (λ t. cond t (front_length p bs + 1) 0) h

front_none : (p : ℕ → Bool) (b : ℕ) (bs : List ℕ) → p b ≡ false → front_length p (b ∷ bs) ≡ 0
front_none p b bs h = ap (λ t. cond t (front_length p bs + 1) 0) h

-- the front goes on by one byte, or ends
pub front_more : (p : ℕ → Bool) (bytes : List ℕ) (at : ℕ) → at < length bytes → p (get_or bytes at 0) ≡ true → front_length p (drop at bytes) ≡ front_length p (drop (at + 1) bytes) + 1
front_more p bytes at h t = ap (front_length p) (drop_more bytes at 0 h) ∙ front_one p (get_or bytes at 0) (drop (at + 1) bytes) t

pub front_ends : (p : ℕ → Bool) (bytes : List ℕ) (at : ℕ) → at < length bytes → p (get_or bytes at 0) ≡ false → front_length p (drop at bytes) ≡ 0
front_ends p bytes at h t = ap (front_length p) (drop_more bytes at 0 h) ∙ front_none p (get_or bytes at 0) (drop (at + 1) bytes) t

-- the bytes from a place to an end
pub cut : (bytes : List ℕ) (at n end : ℕ) → at < length bytes → end ≡ at + 1 + n → take (end - at) (drop at bytes) ≡ get_or bytes at 0 ∷ take n (drop (at + 1) bytes)
cut bytes at n end h e =
    let more : end - at ≡ n + 1 = omega arith in
    ap (λ k. take k (drop at bytes)) more ∙ ap (take (n + 1)) (drop_more bytes at 0 h) ∙ ap (λ k. take k (get_or bytes at 0 ∷ drop (at + 1) bytes)) (add-one n)

-- digits at the front
digit : (b : ℕ) → is_ascii_digit b ≡ true → digit_value b < 10
digit b h =
    let low : 48 ≤ b = leb-true 48 b (first_so (leb 48 b) (leb b 57) h) in
    let high : b ≤ 57 = leb-true b 57 (second_so (leb 48 b) (leb b 57) h) in
    omega (arith, digit_value_digit b (low, high))

pub front_digits : (bs : List ℕ) → AllDigits 10 (take (front_length is_ascii_digit bs) bs)
front_digits [] = tt
front_digits (b ∷ bs) = by (is_ascii_digit b) refl (front_digits bs)
  where
    by : (t : Bool) → is_ascii_digit b ≡ t → AllDigits 10 (take (front_length is_ascii_digit bs) bs) → AllDigits 10 (take (front_length is_ascii_digit (b ∷ bs)) (b ∷ bs))
    by true e rest =
        let n = front_length is_ascii_digit bs in
        let is : take (front_length is_ascii_digit (b ∷ bs)) (b ∷ bs) ≡ b ∷ take n bs = ap (λ k. take k (b ∷ bs)) (front_one is_ascii_digit b bs e ∙ add-one n) in
        subst (AllDigits 10) (sym is) (digit b e, rest)
    by false e rest = subst (λ k. AllDigits 10 (take k (b ∷ bs))) (sym (front_none is_ascii_digit b bs e)) tt

pub digits_cut : (bytes : List ℕ) (at end : ℕ) → at < length bytes → end ≡ at + 1 + front_length is_ascii_digit (drop (at + 1) bytes) → is_ascii_digit (get_or bytes at 0) ≡ true → AllDigits 10 (take (end - at) (drop at bytes))
digits_cut bytes at end h e t = subst (AllDigits 10) (sym (cut bytes at _ end h e)) (digit (get_or bytes at 0) t, front_digits (drop (at + 1) bytes))

-- the piece of a plain name, of a number, and of a name in quotes
pub plain_is : (bytes : List ℕ) (at end : ℕ) → at < length bytes → end ≡ at + 1 + front_length continues_name (drop (at + 1) bytes) → Whole (Word (plain_at bytes at) at) end ≡ plain_piece at (drop at bytes)
plain_is bytes at end h e =
    ap (λ bs. Whole (Word (plain_name bs) at) end) (drop_more bytes at 0 h)
    ∙ ap (λ k. Whole (Word (get_or bytes at 0 ∷ take (front_length continues_name (drop (at + 1) bytes)) (drop (at + 1) bytes)) at) k) e
    ∙ ap (plain_piece at) (sym (drop_more bytes at 0 h))

-- the number at a place, by whether a digit is there
value_by : (bytes : List ℕ) (at : ℕ) (t : Bool) → at < length bytes → is_ascii_digit (get_or bytes at 0) ≡ t → value_at bytes at ≡ cond t (integer_of (get_or bytes at 0 ∷ take (front_length is_ascii_digit (drop (at + 1) bytes)) (drop (at + 1) bytes))) None
value_by bytes at t h d =
    ap value (drop_more bytes at 0 h)
    ∙ ap (λ b. cond b (integer_of (get_or bytes at 0 ∷ take (front_length is_ascii_digit (drop (at + 1) bytes)) (drop (at + 1) bytes))) None) d

pub number_is : (bytes : List ℕ) (at end : ℕ) → at < length bytes → is_ascii_digit (get_or bytes at 0) ≡ true → end ≡ at + 1 + front_length is_ascii_digit (drop (at + 1) bytes) → Whole (Number (value_at bytes at) at) end ≡ number_piece at (drop at bytes)
number_is bytes at end h d e =
    ap (λ v. Whole (Number v at) end) (value_by bytes at true h d)
    ∙ ap (λ k. Whole (Number (integer_of (get_or bytes at 0 ∷ take (front_length is_ascii_digit (drop (at + 1) bytes)) (drop (at + 1) bytes))) at) k) e
    ∙ ap (number_piece at) (sym (drop_more bytes at 0 h))

pub quoted_is : (at : ℕ) (r : Result (List ℕ × ℕ) Refusal) (q : List ℕ × ℕ) → r ≡ Ok q → quoted_piece at r ≡ Ok (Whole (Word (name_read r) at) q.1)
quoted_is at r q e = subst (λ s. quoted_piece at s ≡ Ok (Whole (Word (name_read s) at) q.1)) (sym e) refl

-- what stands at a place is cut out again
pub plain_again : (bytes : List ℕ) (at end : ℕ) → at < length bytes → end ≡ at + 1 + front_length continues_name (drop (at + 1) bytes) → take (end - at) (drop at bytes) ≡ plain_at bytes at
plain_again bytes at end h e = cut bytes at _ end h e ∙ ap plain_name (sym (drop_more bytes at 0 h))

pub value_again : (bytes : List ℕ) (at end : ℕ) → at < length bytes → is_ascii_digit (get_or bytes at 0) ≡ true → end ≡ at + 1 + front_length is_ascii_digit (drop (at + 1) bytes) → integer_of (take (end - at) (drop at bytes)) ≡ value_at bytes at
value_again bytes at end h d e = ap integer_of (cut bytes at _ end h e) ∙ sym (value_by bytes at true h d)

pub no_value : (bytes : List ℕ) (at : ℕ) → at < length bytes → is_ascii_digit (get_or bytes at 0) ≡ false → None ≡ value_at bytes at
no_value bytes at h d = sym (value_by bytes at false h d)

-- behind the bytes there is nothing
pub plain_past : (bytes : List ℕ) (at : ℕ) → length bytes ≤ at → [] ≡ plain_at bytes at
plain_past bytes at h = sym (ap plain_name (drop_all at bytes h))

pub value_past : (bytes : List ℕ) (at : ℕ) → length bytes ≤ at → None ≡ value_at bytes at
value_past bytes at h = sym (ap value (drop_all at bytes h))

pub quoted_past : (bytes : List ℕ) (at : ℕ) → length bytes ≤ at → [] ≡ shown.quoted_at bytes at
quoted_past bytes at h = sym (ap (λ bs. name_read (quoted (at + 1) false bs)) (drop_all (at + 1) bytes (omega (arith, h))))

pub quoted_again : (bytes : List ℕ) (at : ℕ) (q : List ℕ × ℕ) → quoted (at + 1) false (drop (at + 1) bytes) ≡ Ok q → q.0 ≡ shown.quoted_at bytes at
quoted_again bytes at q e = sym (ap name_read e)

pub quoted_not : (bytes : List ℕ) (at : ℕ) (f : Refusal) → quoted (at + 1) false (drop (at + 1) bytes) ≡ Err f → [] ≡ shown.quoted_at bytes at
quoted_not bytes at f e = sym (ap name_read e)

-- a quoted name with bytes before it
abbrev pub named_before : List ℕ → Result (List ℕ × ℕ) Refusal → Result (List ℕ × ℕ) Refusal
named_before n (Ok q) = Ok (n ++ q.0, q.1)
named_before n (Err f) = Err f

pub before_byte : (n : List ℕ) (b : ℕ) (r : Result (List ℕ × ℕ) Refusal) → named_before (n ++ b ∷ []) r ≡ named_before n (with_byte b r)
before_byte n b (Ok q) = ap (λ m. Ok (m, q.1)) (append_assoc n (b ∷ []) q.0)
before_byte n b (Err f) = refl

pub before_none : (r : Result (List ℕ × ℕ) Refusal) → named_before [] r ≡ r
before_none (Ok q) = refl
before_none (Err f) = refl

-- a byte within quotes, by what it does
pub quoted_at : (bytes : List ℕ) (at : ℕ) (behind : Bool) (role : Role) → at < length bytes → role ≡ role_of behind (get_or bytes at 0) → quoted at behind (drop at bytes) ≡ by_role role at (get_or bytes at 0) (λ next. quoted (at + 1) next (drop (at + 1) bytes))
quoted_at bytes at behind role h e =
    ap (quoted at behind) (drop_more bytes at 0 h)
    ∙ ap (λ r. by_role r at (get_or bytes at 0) (λ next. quoted (at + 1) next (drop (at + 1) bytes))) (sym e)

pub quoted_end : (bytes : List ℕ) (at : ℕ) (behind : Bool) → length bytes ≤ at → quoted at behind (drop at bytes) ≡ Err (fault 3 at)
quoted_end bytes at behind h = ap (quoted at behind) (drop_all at bytes h)
