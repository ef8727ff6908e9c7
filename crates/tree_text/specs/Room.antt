-- Room for a text that is written from its end.
use Rattle.std.specs.Prelude.{ℕ, List}

-- the text, and how many bytes before it are free
pub record Room : Type 0 where
  pub text : List ℕ
  pub free : ℕ
