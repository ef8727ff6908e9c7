-- What stands in a text at the places that reading remembers.
use Rattle.std.specs.Prelude.{◌≡◌, ℕ, ◌+◌, List, [], ◌∷◌, take, drop, map, true, false, if◌then◌else◌, Option, Some, None, Result, Ok, Err}
use Rattle.std.specs.Char.{is_ascii_digit}
use Rattle.faults.specs.declared.refusal.Refusal.{Refusal}
use Rattle.term_syntax.specs.declared.token.Shape.{Shape}
use Rattle.term_syntax.specs.declared.token.Token as cut_token
use Rattle.term_syntax.specs.declared.token.Shape.TheVariants as shape
use Rattle.term_syntax.specs.declared.scanner.Cut.{Cut}
use Rattle.term_syntax.specs.declared.scanner.Cut.TheVariants as cut
use Rattle.term_syntax.specs.declared.machine.Entry.{Entry}
use Rattle.term_syntax.specs.declared.machine.Machine as declared
use Rattle.term_syntax.specs.Token.{Token, Word, Number, At, Piece, Blank, Whole}
use Rattle.term_syntax.specs.State.{Kind, Symbol, Integer, Brackets, Part, Machine}
use Rattle.tree_text.specs.NameBytes.{begins_name, continues_name}
use Rattle.term_syntax.specs.Tokens.{is_space, mark_of, front_length, quoted, integer_of}

-- the plain name at the front of bytes: the first, and all that go on with it
abbrev pub plain_name : List ℕ → List ℕ
plain_name [] = []
plain_name (b ∷ bs) = b ∷ take (front_length continues_name bs) bs

-- the name that was read in quotes, if any was
abbrev pub name_read : Result (List ℕ × ℕ) Refusal → List ℕ
name_read (Ok q) = q.0
name_read (Err f) = []

-- the number at the front of bytes, if it is an integer up to 2^64 - 1 without a leading zero
abbrev pub value : List ℕ → Option ℕ
value [] = None
value (b ∷ bs) =
    if is_ascii_digit b then integer_of (b ∷ take (front_length is_ascii_digit bs) bs)
    else None

-- the names and the number that stand at a place: a plain name, a name in quotes, and a number
abbrev pub plain_at : List ℕ → ℕ → List ℕ
plain_at text place = plain_name (drop place text)

abbrev pub quoted_at : List ℕ → ℕ → List ℕ
quoted_at text place = name_read (quoted (place + 1) false (drop (place + 1) text))

abbrev pub value_at : List ℕ → ℕ → Option ℕ
value_at text place = value (drop place text)

-- the token of this shape at a place
abbrev pub token_at : List ℕ → ℕ → Shape → Token
token_at text place shape.Word = Word (plain_at text place) place
token_at text place shape.Quoted = Word (quoted_at text place) place
token_at text place shape.Number = Number (value_at text place) place
token_at text place (shape.At m) = At m place

abbrev pub token_in : List ℕ → cut_token.Token → Token
token_in text t = token_at text t.place t.shape

-- the piece that was cut
abbrev pub piece_in : List ℕ → Cut → Piece
piece_in text cut.Blank = Blank
piece_in text (cut.Whole t next) = Whole (token_in text t) next

-- a token of this shape begins with the byte
abbrev pub BeginsShape : ℕ → Shape → Type 0
BeginsShape b shape.Word = begins_name b ≡ true
BeginsShape b shape.Quoted = b ≡ 34
BeginsShape b shape.Number = is_ascii_digit b ≡ true
BeginsShape b (shape.At m) = mark_of b ≡ Some m

-- what was cut, white space or a token, begins with the byte
abbrev pub BeginsCut : ℕ → Cut → Type 0
BeginsCut b cut.Blank = is_space b ≡ true
BeginsCut b (cut.Whole t next) = BeginsShape b t.shape

-- what the term is whose first token has this shape
abbrev pub kind_at : List ℕ → ℕ → Shape → Kind
kind_at text place shape.Word = Symbol (plain_at text place)
kind_at text place shape.Quoted = Symbol (quoted_at text place)
kind_at text place shape.Number = Integer (value_at text place)
kind_at text place (shape.At m) = Brackets

abbrev pub part_in : List ℕ → Entry → Part
part_in text e =
    record { place = e.place; over = e.over; kind = kind_at text e.place e.shape; count = e.count }

abbrev pub parts_in : List ℕ → List Entry → List Part
parts_in text es = map (part_in text) es

-- what reading has come to in a text
abbrev pub machine_in : List ℕ → declared.Machine → Machine
machine_in text m = record {
  place = m.place;
  groups = m.groups;
  parts = parts_in text m.parts;
  nodes = m.nodes.begun;
  terms = m.nodes.terms;
}
