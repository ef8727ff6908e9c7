-- Tokens with their places in bytes from 0, and what begins at a byte.
use Rattle.std.specs.Prelude.{ℕ, List, Option}
use Rattle.term_syntax.specs.declared.token.Mark.{Mark}

-- a name, a number or a mark, each with the place of its first byte. A number has no value where it
-- isn't an integer up to 2^64 - 1 without a leading zero
pub data Token : Type 0 where
  Word : List ℕ → ℕ → Token
  Number : Option ℕ → ℕ → Token
  At : Mark → ℕ → Token

-- white space of one byte, or a token with the place after it
pub data Piece : Type 0 where
  Blank : Piece
  Whole : Token → ℕ → Piece
