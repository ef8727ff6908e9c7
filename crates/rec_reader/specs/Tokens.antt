-- The tokens of bytes, with their places.
use Rattle.std.specs.Prelude.{◌≡◌, ℕ, zero, suc, ◌+◌, List, [], ◌∷◌, length, take, Bool, false, not, ◌&&◌, ◌||◌, ◌==◌, nat_eq, codes, if◌then◌else◌, Option, Some, None, Result, Ok, Err}
use Rattle.std.specs.Char.{is_ascii_alphanumeric}
use Rattle.std.specs.List.{list_any, starts_with}
use Rattle.std.specs.Str.{bytes_eq}
use Rattle.rec_reader.specs.declared.token.Token.{Token}
use Rattle.rec_reader.specs.declared.token.Token.TheVariants.{Named, At}
use Rattle.rec_reader.specs.declared.token.Sign.{Sign}
use Rattle.rec_reader.specs.declared.token.Sign.TheVariants.{RecSpec, Sorts, Cons, Opns, Vars, Rules, Eval, EndSpec, If, AndIf, Joins, Parts, Arrow, Colon, Comma, Open, Close, Equal, Unequal}
use Rattle.read_faults.specs.declared.fail.ReadFail.{ReadFail}
use Rattle.read_faults.specs.declared.fail.ReadFail.TheVariants.{Refused, Memory}
use Rattle.rec_reader.specs.declared.scanner.Piece.{Piece}
use Rattle.rec_reader.specs.declared.scanner.Piece.TheVariants.{Blank, Whole, Bad}

-- space, tab, CR and LF
abbrev pub is_space : ℕ → Bool
is_space b = b == 32 || b == 9 || b == 13 || b == 10

-- a byte that may stand in a name wherever it stands
abbrev pub is_plain : ℕ → Bool
is_plain b = is_ascii_alphanumeric b || list_any (λ c. c == b) (codes "_'.@#$&*+/!?^~|\\")

-- the byte is '(', ')' or ','
abbrev pub is_frequent_mark : ℕ → Bool
is_frequent_mark b = b == 40 || b == 41 || b == 44

-- the bytes begin with these
abbrev pub begins : List ℕ → List ℕ → Bool
begins bytes front = starts_with nat_eq bytes front

-- a name byte stands at the front: a plain one, or a '-' that no '>' follows
abbrev pub is_name_byte : List ℕ → Bool
is_name_byte [] = false
is_name_byte (b ∷ bs) = is_plain b || (b == 45 && not (begins bs (codes ">")))

-- how many name bytes stand at the front
abbrev pub run_length : List ℕ → ℕ
run_length [] = 0
run_length (b ∷ bs) = if is_name_byte (b ∷ bs) then run_length bs + 1 else 0

-- how many bytes stand before the next LF, or before the end
abbrev pub comment_length : List ℕ → ℕ
comment_length [] = 0
comment_length (b ∷ bs) = if b == 10 then 0 else comment_length bs + 1

-- the byte is the last one of a reserved word: 'C', 'S', 'L' or 'f'
abbrev pub ends_word : ℕ → Bool
ends_word b = b == 67 || b == 83 || b == 76 || b == 102

-- the reserved word that a run of name bytes is
abbrev pub word_of : List ℕ → Option Sign
word_of run =
    if bytes_eq run (codes "REC-SPEC") then Some RecSpec
    else (if bytes_eq run (codes "SORTS") then Some Sorts
    else (if bytes_eq run (codes "CONS") then Some Cons
    else (if bytes_eq run (codes "OPNS") then Some Opns
    else (if bytes_eq run (codes "VARS") then Some Vars
    else (if bytes_eq run (codes "RULES") then Some Rules
    else (if bytes_eq run (codes "EVAL") then Some Eval
    else (if bytes_eq run (codes "END-SPEC") then Some EndSpec
    else (if bytes_eq run (codes "if") then Some If
    else (if bytes_eq run (codes "and-if") then Some AndIf
    else None)))))))))

-- the mark at the front, with the number of bytes after its first: of the arrows the first that stands there
abbrev pub mark_of : List ℕ → Option (Sign × ℕ)
mark_of bytes =
    if begins bytes (codes ":") then Some (Colon, 0)
    else (if begins bytes (codes ",") then Some (Comma, 0)
    else (if begins bytes (codes "(") then Some (Open, 0)
    else (if begins bytes (codes ")") then Some (Close, 0)
    else (if begins bytes (codes "=") then Some (Equal, 0)
    else (if begins bytes (codes "<>") then Some (Unequal, 1)
    else (if begins bytes (codes "-><-") then Some (Joins, 3)
    else (if begins bytes (codes "->/<-") then Some (Parts, 4)
    else (if begins bytes (codes "->") then Some (Arrow, 1)
    else None))))))))

-- a run is its reserved word, or else a name
abbrev pub word_or_name : ℕ → ℕ → Option Sign → Token
word_or_name start end (Some sign) = At sign start
word_or_name start end None = Named (record { start = start; end = end })

abbrev pub token_of_run : ℕ → List ℕ → Token
token_of_run at run = word_or_name at (at + length run) (word_of run)

abbrev pub mark_or_bad : ℕ → Option (Sign × ℕ) → Piece
mark_or_bad at (Some m) = Whole (At m.0 at) m.1
mark_or_bad at None = Bad

-- what begins at the front of bytes that stand at this place: white space, a comment, a run or a mark
abbrev pub piece_at : ℕ → List ℕ → Piece
piece_at at [] = Bad
piece_at at (b ∷ bs) =
    if is_space b then Blank 0
    else (if b == 37 then Blank (comment_length bs)
    else (if is_name_byte (b ∷ bs) then Whole (token_of_run at (b ∷ take (run_length bs) bs)) (run_length bs)
    else mark_or_bad at (mark_of (b ∷ bs))))

-- how many bytes of the piece follow its first
abbrev pub more_of : Piece → ℕ
more_of (Blank more) = more
more_of (Whole token more) = more
more_of Bad = 0

-- what reading gives, with a token before it
abbrev pub after_token : Token → Result (List Token) ℕ → Result (List Token) ℕ
after_token t (Ok ts) = Ok (t ∷ ts)
after_token t (Err at) = Err at

-- what reading gives, from a piece at this place and what the bytes after it give
abbrev pub read_piece : ℕ → Piece → (ℕ → Result (List Token) ℕ) → Result (List Token) ℕ
read_piece at (Blank more) after = after more
read_piece at (Whole token more) after = after_token token (after more)
read_piece at Bad after = Err at

-- the tokens of the bytes from a place on, or the first place where nothing begins; the first `within`
-- bytes belong to the piece that began before
abbrev pub tokens_from : ℕ → ℕ → List ℕ → Result (List Token) ℕ
tokens_from at within [] = Ok []
tokens_from at (suc within) (b ∷ bs) = tokens_from (at + 1) within bs
tokens_from at zero (b ∷ bs) = read_piece at (piece_at at (b ∷ bs)) (λ more. tokens_from (at + 1) more bs)

abbrev pub tokens_of : List ℕ → Result (List Token) ℕ
tokens_of bytes = tokens_from 0 0 bytes

-- the refusal is at the first byte where nothing begins
abbrev pub IsBadByte : List ℕ → ReadFail → Type 0
IsBadByte bytes (Refused kind offset) = (kind ≡ 1) × (tokens_of bytes ≡ Err offset)
IsBadByte bytes Memory = Unit {0}
