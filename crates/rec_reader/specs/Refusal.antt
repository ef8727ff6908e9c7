-- Where tokens that are no sentence are refused.
use Rattle.std.specs.Prelude.{◌≡◌, ℕ, List, [], ◌∷◌, ◌++◌, length, ◌⊎◌}
use Rattle.rec_reader.specs.declared.token.Token.{Token}
use Rattle.rec_reader.specs.declared.token.Token.TheVariants.{Named, At}
use Rattle.read_faults.specs.declared.fail.ReadFail.{ReadFail}
use Rattle.read_faults.specs.declared.fail.ReadFail.TheVariants.{Refused, Memory}
use Rattle.rec_reader.specs.Scanned.{Scanned}
use Rattle.rec_reader.specs.Grammar.{BeginsSentence, IsNoSentence}

-- the place of a token's first byte
abbrev pub place_of : Token → ℕ
place_of (Named n) = n.start
place_of (At sign p) = p

-- the first token such that the tokens up to and with it begin no sentence is at this place
pub record IsFirstUnexpected (tokens : List Token) (offset : ℕ) : Type 0 where
  pub before : List Token
  pub token : Token
  pub after : List Token
  pub is : tokens ≡ before ++ token ∷ after
  pub begins : BeginsSentence before
  pub unexpected : BeginsSentence (before ++ token ∷ []) → ⊥
  pub place : offset ≡ place_of token

-- each front of the tokens begins a sentence, and they are none
pub record IsUnended (tokens : List Token) : Type 0 where
  pub begins : BeginsSentence tokens
  pub unended : IsNoSentence tokens

-- the refusal is at the first unexpected token, or at the end of tokens that go on
abbrev pub IsRefusal : Scanned → ReadFail → Type 0
IsRefusal input (Refused kind offset) =
    ((kind ≡ 2) × IsFirstUnexpected input.tokens offset)
    ⊎ ((kind ≡ 3) × (offset ≡ length input.bytes) × IsUnended input.tokens)
IsRefusal input Memory = Unit {0}
