-- A stack of trees by its length, and by whether its last tree may stand where a list must.
use Rattle.std.specs.Prelude.{◌≡◌, List, [], ◌∷◌, length, Option, Some, Bool, false}
use Rattle.term_model.specs.Tree.{Tree, may_be_list}
use Rattle.term_model.specs.declared.flattened.Shape.{Shape}

abbrev pub last_may_be_list : List Tree → Bool
last_may_be_list [] = false
last_may_be_list (t ∷ stack) = may_be_list t

pub record Summarizes (shape : Shape) (stack : List Tree) : Type 0 where
  pub count : length stack ≡ shape.trees
  pub last : last_may_be_list stack ≡ shape.ends_in_list

-- there is a stack, of this shape
abbrev pub IsPushed : Shape → Option (List Tree) → Type 0
IsPushed shape pushed = (stack : List Tree) × (pushed ≡ Some stack) × Summarizes shape stack
