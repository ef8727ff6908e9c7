-- The tokens of term text, with their places in bytes from 0.
use Rattle.std.specs.Prelude.{ℕ, zero, suc, ◌+◌, ◌-◌, List, [], ◌∷◌, length, take, Bool, true, false, ◌&&◌, ◌||◌, ◌==◌, nat_le, nat_lt, if◌then◌else◌, Option, Some, None, Result, Ok, Err}
use Rattle.std.specs.Char.{is_ascii_digit}
use Rattle.std.specs.Str.Parse.{digits_value}
use Rattle.tree_text.specs.NameBytes.{begins_name, continues_name, is_printable}
use Rattle.term_syntax.specs.Token.{Token, Word, Number, At, Piece, Blank, Whole}
use Rattle.term_syntax.specs.declared.token.Mark.{Mark}
use Rattle.term_syntax.specs.declared.token.Mark.TheVariants.{Open, Close, OpenList, CloseList, Comma}
use Rattle.term_syntax.specs.declared.scanner.Role.{Role}
use Rattle.term_syntax.specs.declared.scanner.Role.TheVariants.{Closes, Escapes, Stands, Bad}
use Rattle.faults.specs.declared.refusal.Refusal.{Refusal}
use Rattle.read_faults.specs.Fault.{fault}

-- space, tab, CR and LF
abbrev pub is_space : ℕ → Bool
is_space b = b == 32 || b == 9 || b == 13 || b == 10

-- what a byte within quotes does. Behind a backslash a quote or a backslash stands for itself; else
-- a quote closes the name, a backslash escapes the next byte, and a printable byte stands for
-- itself. Every other byte is bad
abbrev pub role_of : Bool → ℕ → Role
role_of true b = if b == 34 || b == 92 then Stands else Bad
role_of false b =
    if b == 34 then Closes
    else (if b == 92 then Escapes
    else (if is_printable b then Stands
    else Bad))

-- how many bytes that pass a test stand at the front
abbrev pub front_length : (ℕ → Bool) → List ℕ → ℕ
front_length passes [] = 0
front_length passes (b ∷ bs) = if passes b then front_length passes bs + 1 else 0

abbrev pub is_longer_than_one : List ℕ → Bool
is_longer_than_one ds = nat_lt 1 (length ds)

abbrev pub begins_with_zero : List ℕ → Bool
begins_with_zero [] = false
begins_with_zero (d ∷ ds) = d == 48

-- a number, if it is at most 2^64 - 1
abbrev pub up_to_most : ℕ → Option ℕ
up_to_most n = if nat_le n 18446744073709551615 then Some n else None

-- the integer that digits spell: from 0 to 2^64 - 1, without a leading zero
abbrev pub integer_of : List ℕ → Option ℕ
integer_of ds =
    if is_longer_than_one ds && begins_with_zero ds then None
    else up_to_most (digits_value 10 ds)

-- a name with its first byte, and the place after its closing quote
abbrev pub with_byte : ℕ → Result (List ℕ × ℕ) Refusal → Result (List ℕ × ℕ) Refusal
with_byte b (Ok q) = Ok (b ∷ q.0, q.1)
with_byte b (Err f) = Err f

-- what a byte at this place and the bytes after it come to
abbrev pub by_role : Role → ℕ → ℕ → (Bool → Result (List ℕ × ℕ) Refusal)
    → Result (List ℕ × ℕ) Refusal
by_role Closes at b rest = Ok ([], at + 1)
by_role Escapes at b rest = rest true
by_role Stands at b rest = with_byte b (rest false)
by_role Bad at b rest = Err (fault 1 at)

-- the quoted name whose bytes go on at this place, behind a backslash or not, and the place after
-- its closing quote; refused at its first bad byte, or at the end of the input where no quote
-- closes it
abbrev pub quoted : ℕ → Bool → List ℕ → Result (List ℕ × ℕ) Refusal
quoted at behind [] = Err (fault 3 at)
quoted at behind (b ∷ bs) = by_role (role_of behind b) at b (λ next. quoted (at + 1) next bs)

abbrev pub mark_of : ℕ → Option Mark
mark_of b =
    if b == 40 then Some Open
    else (if b == 41 then Some Close
    else (if b == 91 then Some OpenList
    else (if b == 93 then Some CloseList
    else (if b == 44 then Some Comma
    else None))))

abbrev pub quoted_piece : ℕ → Result (List ℕ × ℕ) Refusal → Result Piece Refusal
quoted_piece at (Ok q) = Ok (Whole (Word q.0 at) q.1)
quoted_piece at (Err f) = Err f

abbrev pub mark_piece : ℕ → Option Mark → Result Piece Refusal
mark_piece at (Some m) = Ok (Whole (At m at) (at + 1))
mark_piece at None = Err (fault 1 at)

-- a plain name, and a number, at the front of bytes that stand at this place
abbrev pub plain_piece : ℕ → List ℕ → Piece
plain_piece at [] = Blank
plain_piece at (b ∷ bs) =
    Whole (Word (b ∷ take (front_length continues_name bs) bs) at)
    (at + 1 + front_length continues_name bs)

abbrev pub number_piece : ℕ → List ℕ → Piece
number_piece at [] = Blank
number_piece at (b ∷ bs) =
    Whole (Number (integer_of (b ∷ take (front_length is_ascii_digit bs) bs)) at)
    (at + 1 + front_length is_ascii_digit bs)

-- what begins at the front of bytes that stand at this place: white space, a plain name, a quoted
-- name, a number or a mark
abbrev pub piece_at : ℕ → List ℕ → Result Piece Refusal
piece_at at [] = Ok Blank
piece_at at (b ∷ bs) =
    if is_space b then Ok Blank
    else (if begins_name b then Ok (plain_piece at (b ∷ bs))
    else (if b == 34 then quoted_piece at (quoted (at + 1) false bs)
    else (if is_ascii_digit b then Ok (number_piece at (b ∷ bs))
    else mark_piece at (mark_of b))))

-- the place after a piece at this place
abbrev pub next_of : ℕ → Piece → ℕ
next_of at Blank = at + 1
next_of at (Whole token next) = next

-- what reading gives, with a token before it
abbrev pub after_token : Token → Result (List Token) Refusal → Result (List Token) Refusal
after_token t (Ok ts) = Ok (t ∷ ts)
after_token t (Err f) = Err f

abbrev pub after_piece : Piece → Result (List Token) Refusal → Result (List Token) Refusal
after_piece Blank r = r
after_piece (Whole token next) r = after_token token r

-- what reading gives, from a piece at this place and what is read from the place after it
abbrev pub read_piece : ℕ → Result Piece Refusal → (ℕ → Result (List Token) Refusal)
    → Result (List Token) Refusal
read_piece at (Ok p) after = after_piece p (after (next_of at p))
read_piece at (Err f) after = Err f

-- the tokens of the bytes from a place on, or the first refusal; the first `within` bytes belong to
-- the piece that began before
abbrev pub tokens_from : ℕ → ℕ → List ℕ → Result (List Token) Refusal
tokens_from at within [] = Ok []
tokens_from at (suc within) (b ∷ bs) = tokens_from (at + 1) within bs
tokens_from at zero (b ∷ bs) =
    read_piece at (piece_at at (b ∷ bs)) (λ next. tokens_from (at + 1) (next - (at + 1)) bs)

abbrev pub tokens_of : List ℕ → Result (List Token) Refusal
tokens_of bytes = tokens_from 0 0 bytes
