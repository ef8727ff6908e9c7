-- Counts that 32 bits hold, since an input has fewer than 2^32 bytes.
use Rattle.std.specs.Prelude.{◌<◌, ◌≤◌, ◌^◌, ℕ, List, length, All}
use Rattle.rec_reader.specs.declared.token.Token.{Token}
use Rattle.rec_reader.specs.declared.syntax_tree.Node.{Node}
use Rattle.rec_reader.specs.declared.syntax_tree.Rule.{Rule}
use Rattle.rec_reader.specs.declared.syntax_tree.Specification.{Specification}

-- fewer than 2^32 bytes, and at most as many tokens
pub record IsShort (bytes : List ℕ) (tokens : List Token) : Type 0 where
  pub bytes_few : length bytes < 2 ^ 32
  pub tokens_few : length tokens ≤ length bytes

-- the counts of heads are below 2^32
abbrev pub AreCountsFew : List Node → Type 0
AreCountsFew heads = All (λ h. h.count < 2 ^ 32) heads

-- the left side of a rule has fewer than 2^32 nodes
abbrev pub HasFewNodes : Rule → Type 0
HasFewNodes r = length r.left < 2 ^ 32

-- each left side of a specification has fewer than 2^32 nodes
pub record HasFewLeftNodes (s : Specification) : Type 0 where
  pub rules : All HasFewNodes s.rules
