-- Where reading stands in an input, and what was read so far.
use Rattle.std.specs.Prelude.{ℕ, List, Option, Bool}
use Rattle.term_syntax.specs.declared.machine.Group.{Group}
use Rattle.term_syntax.specs.declared.machine.Node.{Node}
use Rattle.term_syntax.specs.declared.machine.Place.{Place}

-- what a term is: a name, an integer, or a list in brackets
pub data Kind : Type 0 where
  Symbol : List ℕ → Kind
  Integer : Option ℕ → Kind
  Brackets : Kind

-- a term of the input, in the order of the text: the place of its first byte, whether it is the
-- 17th argument of a name, and how many terms stand in its parentheses or brackets
pub record Part : Type 0 where
  pub place : ℕ
  pub over : Bool
  pub kind : Kind
  pub count : ℕ

-- the place, and what was read so far: open groups, all parts, and the whole terms as nodes, each
-- after the terms in it; those of the term that is being read, and those of the terms before it
pub record Machine : Type 0 where
  pub place : Place
  pub groups : List Group
  pub parts : List Part
  pub nodes : List Node
  pub terms : List (List Node)
