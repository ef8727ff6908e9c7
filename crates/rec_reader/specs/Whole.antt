-- A list of nodes is that of one whole term.
use Rattle.std.specs.Prelude.{◌≡◌, ℕ, ◌+◌, ◌-◌, List, [], ◌∷◌, Option, Some, None, nat_lt, if◌then◌else◌, All}
use Rattle.rec_reader.specs.declared.syntax_tree.Node.{Node}
use Rattle.rec_reader.specs.declared.syntax_tree.Condition.{Condition}
use Rattle.rec_reader.specs.declared.syntax_tree.Rule.{Rule}
use Rattle.rec_reader.specs.declared.syntax_tree.Specification.{Specification}

-- how many terms there are after these nodes, each of which takes its arguments from the terms before it;
-- none where there are too few
abbrev pub terms_after : ℕ → List Node → Option ℕ
terms_after n [] = Some n
terms_after n (node ∷ nodes) = if nat_lt n node.count then None else terms_after (n - node.count + 1) nodes

abbrev pub IsWhole : List Node → Type 0
IsWhole nodes = terms_after 0 nodes ≡ Some 1

-- the sides of a condition, and of a rule with its conditions
pub record HasWholeSides (c : Condition) : Type 0 where
  pub first : IsWhole c.first
  pub second : IsWhole c.second

pub record IsWholeRule (r : Rule) : Type 0 where
  pub left : IsWhole r.left
  pub right : IsWhole r.right
  pub conditions : All HasWholeSides r.conditions

-- all terms of a specification
pub record HasWholeTerms (s : Specification) : Type 0 where
  pub rules : All IsWholeRule s.rules
  pub terms : All IsWhole s.terms
