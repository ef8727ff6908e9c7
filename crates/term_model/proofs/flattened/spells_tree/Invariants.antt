use Rattle.std.proofs.Common.{◌≡◌, ◌≤◌, List, [], take, Some}
use Rattle.term_model.specs.Tree.{Tree}
use Rattle.term_model.specs.Postorder.{push_items}
use Rattle.term_model.specs.Shape.{Summarizes}
use Rattle.term_model.proofs.flattened.spells_tree.Given as goal

-- the items so far make a stack of this shape
abbrev pub invariant-loop-item : goal.invariant-loop-item
invariant-loop-item l = (stack : List Tree) × (push_items (take l.item-index l.items) [] ≡ Some stack) × Summarizes l.shape stack × (l.shape.trees ≤ l.item-index)
