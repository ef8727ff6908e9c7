use Rattle.term_model.proofs.Subtrees.{trees_are_subtrees, subtrees_nest, arguments_are_subtrees, arguments_have_fewer_nodes, no_more_nodes, subtrees_are_well_formed, subtrees_are_ground, closed_holds_subtrees}
use Rattle.term_model.proofs.laws.subtree_laws.Goals as goal

pub returns-clause-itself : goal.returns-clause-itself
returns-clause-itself c = trees_are_subtrees

pub returns-clause-nest : goal.returns-clause-nest
returns-clause-nest c = subtrees_nest

pub returns-clause-arguments : goal.returns-clause-arguments
returns-clause-arguments c = arguments_are_subtrees

pub returns-clause-fewer : goal.returns-clause-fewer
returns-clause-fewer c = arguments_have_fewer_nodes

pub returns-clause-no_more : goal.returns-clause-no_more
returns-clause-no_more c = no_more_nodes

pub returns-clause-well_formed : goal.returns-clause-well_formed
returns-clause-well_formed c = subtrees_are_well_formed

pub returns-clause-ground : goal.returns-clause-ground
returns-clause-ground c = subtrees_are_ground

pub returns-clause-closed : goal.returns-clause-closed
returns-clause-closed c = closed_holds_subtrees
