-- The names of tokens are printable, and their integers have at most 64 bits.
use Rattle.std.proofs.Common.{◌≡◌, ◌∙◌, ℕ, zero, suc, ◌+◌, ◌-◌, List, [], ◌∷◌, take, refl, ap, subst, arith, Bool, true, false, ◌&&◌, ◌||◌, cond, eqb, leb, Option, Some, None, Result, Ok, Err}
use Rattle.std.specs.List.{list_all}
use Rattle.std.specs.Char.{is_ascii_digit}
use Rattle.std.specs.Str.Parse.{digits_value}
use Rattle.std.proofs.lemmas.Bool.Decides.{nat_tests}
use Rattle.std.proofs.Math.Numerals.{add-one}
use Rattle.term_model.proofs.Order.{both}
use Rattle.faults.specs.declared.refusal.Refusal.{Refusal}
use Rattle.term_syntax.specs.Token.{Token, Word, Number, At, Piece, Blank, Whole}
use Rattle.term_syntax.specs.declared.token.Mark.{Mark}
use Rattle.term_syntax.specs.declared.scanner.Role.{Role}
use Rattle.term_syntax.specs.declared.scanner.Role.TheVariants.{Closes, Escapes, Stands, Bad}
use Rattle.term_syntax.specs.Tokens.{is_space, front_length, integer_of, up_to_most, is_longer_than_one, begins_with_zero, quoted, by_role, role_of, with_byte, quoted_piece, mark_piece, mark_of, piece_at, after_token, read_piece, tokens_from, tokens_of}
use Rattle.tree_text.specs.NameBytes.{begins_name, continues_name, is_printable}

abbrev pub is_good_number : Option ℕ → Bool
is_good_number (Some v) = leb v 18446744073709551615
is_good_number None = true

abbrev pub is_good : Token → Bool
is_good (Word n p) = list_all is_printable n
is_good (Number v p) = is_good_number v
is_good (At m p) = true

abbrev pub are_good : List Token → Bool
are_good ts = list_all is_good ts

abbrev Good : Result (List Token) Refusal → Type 0
Good (Ok ts) = are_good ts ≡ true
Good (Err f) = Unit {0}

abbrev GoodPiece : Result Piece Refusal → Type 0
GoodPiece (Ok Blank) = Unit {0}
GoodPiece (Ok (Whole t next)) = is_good t ≡ true
GoodPiece (Err f) = Unit {0}

-- which bytes are printable
name_begins : (b : ℕ) → begins_name b ≡ true → is_printable b ≡ true
name_begins b h = grind (arith, nat_tests)

name_goes_on : (b : ℕ) → continues_name b ≡ true → is_printable b ≡ true
name_goes_on b h = grind (arith, nat_tests)

front_all : (bs : List ℕ) → list_all is_printable (take (front_length continues_name bs) bs) ≡ true
front_all [] = refl
front_all (b ∷ bs) = by (continues_name b) refl (front_all bs)
  where
    by : (t : Bool) → continues_name b ≡ t → list_all is_printable (take (front_length continues_name bs) bs) ≡ true → list_all is_printable (take (front_length continues_name (b ∷ bs)) (b ∷ bs)) ≡ true
    by true e rest =
        let n = front_length continues_name bs in
        ap (λ c. list_all is_printable (take (cond c (n + 1) 0) (b ∷ bs))) e
        ∙ ap (λ k. list_all is_printable (take k (b ∷ bs))) (add-one n)
        ∙ both (is_printable b) (list_all is_printable (take n bs)) (name_goes_on b e) rest
    by false e rest = ap (λ c. list_all is_printable (take (cond c (front_length continues_name bs + 1) 0) (b ∷ bs))) e

-- a quoted name
abbrev GoodQuoted : Result (List ℕ × ℕ) Refusal → Type 0
GoodQuoted (Ok q) = list_all is_printable q.0 ≡ true
GoodQuoted (Err f) = Unit {0}

with_good : (b : ℕ) (r : Result (List ℕ × ℕ) Refusal) → is_printable b ≡ true → GoodQuoted r → GoodQuoted (with_byte b r)
with_good b (Ok q) h k = both (is_printable b) (list_all is_printable q.0) h k
with_good b (Err f) h k = tt

stands_good : (behind : Bool) (b : ℕ) → role_of behind b ≡ Stands → is_printable b ≡ true
stands_good true b h = by (eqb b 34 || eqb b 92) refl h
  where
    by : (t : Bool) → (eqb b 34 || eqb b 92) ≡ t → cond t Stands Bad ≡ Stands → is_printable b ≡ true
    by true e h = grind (arith, nat_tests)
    by false e h = absurd cc
stands_good false b h = by (eqb b 34) (eqb b 92) (is_printable b) refl h
  where
    by : (q s t : Bool) → is_printable b ≡ t → cond q Closes (cond s Escapes (cond t Stands Bad)) ≡ Stands → is_printable b ≡ true
    by true s t e h = absurd cc
    by false true t e h = absurd cc
    by false false true e h = e
    by false false false e h = absurd cc

role_good : (role : Role) (at b : ℕ) (rest : Bool → Result (List ℕ × ℕ) Refusal) → (role ≡ Stands → is_printable b ≡ true) → ((behind : Bool) → GoodQuoted (rest behind)) → GoodQuoted (by_role role at b rest)
role_good Closes at b rest h k = refl
role_good Escapes at b rest h k = k true
role_good Stands at b rest h k = with_good b (rest false) (h refl) (k false)
role_good Bad at b rest h k = tt

quoted_good : (bs : List ℕ) (at : ℕ) (behind : Bool) → GoodQuoted (quoted at behind bs)
quoted_good [] at behind = tt
quoted_good (b ∷ bs) at behind = role_good (role_of behind b) at b (λ next. quoted (at + 1) next bs) (stands_good behind b) (λ next. quoted_good bs (at + 1) next)

quoted_piece_good : (at : ℕ) (r : Result (List ℕ × ℕ) Refusal) → GoodQuoted r → GoodPiece (quoted_piece at r)
quoted_piece_good at (Ok q) h = h
quoted_piece_good at (Err f) h = tt

-- a number
most_good : (n : ℕ) → is_good_number (up_to_most n) ≡ true
most_good n = by (leb n 18446744073709551615) refl
  where
    by : (t : Bool) → leb n 18446744073709551615 ≡ t → is_good_number (cond t (Some n) None) ≡ true
    by true e = e
    by false e = refl

number_good : (ds : List ℕ) → is_good_number (integer_of ds) ≡ true
number_good ds = by (is_longer_than_one ds && begins_with_zero ds)
  where
    by : (t : Bool) → is_good_number (cond t None (up_to_most (digits_value 10 ds))) ≡ true
    by true = refl
    by false = most_good (digits_value 10 ds)

mark_good : (at : ℕ) (o : Option Mark) → GoodPiece (mark_piece at o)
mark_good at (Some m) = refl
mark_good at None = tt

-- a piece
either : (t : Bool) (x y : Result Piece Refusal) → (t ≡ true → GoodPiece x) → GoodPiece y → GoodPiece (cond t x y)
either true x y h k = h refl
either false x y h k = k

piece_good : (at b : ℕ) (bs : List ℕ) → GoodPiece (piece_at at (b ∷ bs))
piece_good at b bs =
    either (is_space b) _ _ (λ e. tt)
    (either (begins_name b) _ _ (λ e. both (is_printable b) (list_all is_printable (take (front_length continues_name bs) bs)) (name_begins b e) (front_all bs))
    (either (eqb b 34) _ _ (λ e. quoted_piece_good at (quoted (at + 1) false bs) (quoted_good bs (at + 1) false))
    (either (is_ascii_digit b) _ _ (λ e. number_good (b ∷ take (front_length is_ascii_digit bs) bs))
    (mark_good at (mark_of b)))))

read_good : (at : ℕ) (r : Result Piece Refusal) (after : ℕ → Result (List Token) Refusal) → GoodPiece r → ((n : ℕ) → Good (after n)) → Good (read_piece at r after)
read_good at (Ok Blank) after h k = k (at + 1)
read_good at (Ok (Whole t next)) after h k = go (after next) (k next)
  where
    go : (r : Result (List Token) Refusal) → Good r → Good (after_token t r)
    go (Ok ts) g = both (is_good t) (are_good ts) h g
    go (Err f) g = tt
read_good at (Err f) after h k = tt

from_good : (bytes : List ℕ) (at within : ℕ) → Good (tokens_from at within bytes)
from_good [] at within = refl
from_good (b ∷ bs) at (suc within) = from_good bs (at + 1) within
from_good (b ∷ bs) at zero = read_good at (piece_at at (b ∷ bs)) (λ next. tokens_from (at + 1) (next - (at + 1)) bs) (piece_good at b bs) (λ next. from_good bs (at + 1) (next - (at + 1)))

pub tokens_good : (bytes : List ℕ) (ts : List Token) → tokens_of bytes ≡ Ok ts → are_good ts ≡ true
tokens_good bytes ts e = subst Good e (from_good bytes 0 0)
