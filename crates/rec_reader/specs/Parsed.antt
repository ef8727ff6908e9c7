-- An input read as specifications.
use Rattle.std.specs.Prelude.{ℕ, List}
use Rattle.rec_reader.specs.declared.syntax_tree.Specification.{Specification}

-- the bytes of the input, and its specifications in order
pub record Parsed : Type 0 where
  pub bytes : List ℕ
  pub specifications : List Specification
