use Rattle.std.proofs.Common.{◌≡◌, [], take, Some}
use Rattle.term_model.specs.Tree.{list_of}
use Rattle.term_model.specs.Postorder.{push_items}
use Rattle.plain_rewriting.specs.Boxed.{trees_in}
use Rattle.plain_rewriting.proofs.boxed.Term.of.Given as goal

-- the stack is that of the items so far
abbrev pub invariant-loop-item : goal.invariant-loop-item
invariant-loop-item l = push_items (take l.item-index l.item-items) [] ≡ Some (list_of (trees_in l.stack))
