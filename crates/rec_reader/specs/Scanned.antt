-- An input cut into tokens.
use Rattle.std.specs.Prelude.{ℕ, List}
use Rattle.rec_reader.specs.declared.token.Token.{Token}

-- the bytes of the input, and its tokens in order
pub record Scanned : Type 0 where
  pub bytes : List ℕ
  pub tokens : List Token
