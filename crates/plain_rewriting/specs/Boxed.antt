-- The trees that boxed terms are.
use Rattle.std.specs.Prelude.{◌≡◌, ℕ, List, Option, Some, None, Bool, true, false, Vec, map}
use Rattle.std.specs.Global.{Global}
use Rattle.term_model.specs.Tree.{Tree, Leaf, Node, Trees, End, More, list_of}
use Rattle.term_model.specs.Postorder.{take_trees, push_over, push_item}
use Rattle.term_model.specs.declared.Head.{Head}
use Rattle.term_model.specs.declared.Item.{Item}
use Rattle.plain_rewriting.specs.declared.boxed.Term.{Term}
use Rattle.plain_rewriting.specs.declared.boxed.Term.TheVariants.{Var, Over}
use Rattle.plain_rewriting.specs.declared.boxed.Arguments.{Arguments}
use Rattle.plain_rewriting.specs.declared.boxed.Arguments.TheVariants.{Empty, Next'}

abbrev mutual
  pub tree_of : Term → Tree
  tree_of (Var x) = Leaf x
  tree_of (Over h args) = Node h (trees_in args)

  pub trees_in : Arguments → Trees
  trees_in Empty = End
  trees_in (Next' p t q rest) = More (tree_of t) (trees_in rest)

abbrev pub trees : List Term → List Tree
trees ts = map tree_of ts

abbrev pub argument_lists : List Arguments → List Trees
argument_lists args = map trees_in args

-- A stack is a list with its top first. What is taken from it, or stands on it after an item, is
-- what the items of a tree say.
abbrev pub IsTaken : ℕ → Trees → Trees → Trees → Trees → Type 0
IsTaken count stack taken args rest = (want : Trees) (left : List Tree)
    → take_trees count (list_of stack) taken ≡ Some (want, left) → (args ≡ want)
    × (list_of rest ≡ left)

abbrev pub IsOver : Head → ℕ → Trees → Trees → Type 0
IsOver h count stack after = (want : List Tree) → push_over h (take_trees count (list_of stack) End)
    ≡ Some want → list_of after ≡ want

abbrev pub IsPushed : Item → Trees → Trees → Type 0
IsPushed item stack after = (want : List Tree) → push_item item (list_of stack) ≡ Some want
    → list_of after ≡ want

-- what was found, as trees
abbrev pub found : Option (Vec Term Global) → Option (List Tree)
found None = None
found (Some bound) = Some (trees bound.items)

-- a match went on to these bound trees, or there is none
abbrev pub IsMatched : Bool → Option (List Tree) → List Tree → Type 0
IsMatched true matched bound = matched ≡ Some bound
IsMatched false matched bound = matched ≡ None
