-- Where tokens that are no input are refused.
use Rattle.std.specs.Prelude.{◌≡◌, ℕ, List, [], ◌∷◌, ◌++◌, ◌⊎◌}
use Rattle.term_syntax.specs.Token.{Token, Word, Number, At}
use Rattle.term_syntax.specs.TermGrammar.{BeginsInput, IsNoInput}

-- the place of a token's first byte
abbrev pub place_of : Token → ℕ
place_of (Word n p) = p
place_of (Number v p) = p
place_of (At m p) = p

-- the first token such that the tokens up to and with it begin no input is at this place
pub record IsFirstUnexpected (tokens : List Token) (offset : ℕ) : Type 0 where
  pub before : List Token
  pub token : Token
  pub after : List Token
  pub is : tokens ≡ before ++ token ∷ after
  pub begins : BeginsInput before
  pub unexpected : BeginsInput (before ++ token ∷ []) → ⊥
  pub place : offset ≡ place_of token

-- each front of the tokens begins an input, and they are none
pub record IsUnended (tokens : List Token) : Type 0 where
  pub begins : BeginsInput tokens
  pub unended : IsNoInput tokens

-- the tokens are refused with this kind at this place, of an input of so many bytes: at the first
-- unexpected token, or at the end of tokens that go on
abbrev pub AreRefused : ℕ → List Token → ℕ → ℕ → Type 0
AreRefused size tokens kind offset =
    ((kind ≡ 2) × IsFirstUnexpected tokens offset)
    ⊎ ((kind ≡ 3) × (offset ≡ size) × IsUnended tokens)
