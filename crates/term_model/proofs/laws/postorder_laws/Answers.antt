use Rattle.term_model.proofs.Order.{tree_of-postorder, only_postorder, only_well_formed}
use Rattle.term_model.proofs.Subtrees.{items_of_node, items_are_nodes}
use Rattle.term_model.proofs.laws.postorder_laws.Goals as goal

pub returns-clause-back : goal.returns-clause-back
returns-clause-back c = tree_of-postorder

pub returns-clause-only : goal.returns-clause-only
returns-clause-only c = λ is t h. (only_postorder is t h, only_well_formed is t h)

pub returns-clause-node : goal.returns-clause-node
returns-clause-node c = items_of_node

pub returns-clause-size : goal.returns-clause-size
returns-clause-size c = items_are_nodes
