use Rattle.std.proofs.Common.{◌≡◌, refl, ap, ◌∙◌, Some, IsSome, true, false}
use Rattle.std.specs.Prelude.{is_some}
use Rattle.term_model.specs.Postorder.{tree_of, tree_or_leaf}
use Rattle.term_model.proofs.Order.{items_spelled, well_formed_spelled, tree_of-postorder}
use Rattle.term_model.proofs.flattened.Flat.of.Goals as goal

there : (c : goal.Then-spells_tree) → IsSome (tree_of c.args.items.items)
there c = rw c.deref.ensures.value at (c.if-spells_tree.ensures.0 refl)

pub returns-then-spells_tree-clause-spelled : goal.returns-then-spells_tree-clause-spelled
returns-then-spells_tree-clause-spelled c = items_spelled c.args.items.items (tree_or_leaf (tree_of c.args.items.items)) (there c) refl

pub returns-then-spells_tree-clause-well_formed : goal.returns-then-spells_tree-clause-well_formed
returns-then-spells_tree-clause-well_formed c = well_formed_spelled c.args.items.items (tree_or_leaf (tree_of c.args.items.items)) (there c) refl

pub returns-else-spells_tree-clause-refused : goal.returns-else-spells_tree-clause-refused
returns-else-spells_tree-clause-refused c = λ t w e.
    let some : tree_of c.deref.result.now ≡ Some t = ap tree_of (c.deref.ensures.value ∙ e) ∙ tree_of-postorder t w in
    let bad : false ≡ true = c.if-spells_tree.ensures.1 (ap is_some some) in
    cc
