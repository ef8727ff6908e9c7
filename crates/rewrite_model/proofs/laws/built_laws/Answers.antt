use Rattle.rewrite_model.proofs.Closed.{subtrees_are_built, need_is_bounded, need_of_all_is_bounded}
use Rattle.rewrite_model.proofs.OutermostClosed.{outermost_subtrees_are_built}
use Rattle.rewrite_model.proofs.laws.built_laws.Goals as goal

pub returns-clause-subtrees : goal.returns-clause-subtrees
returns-clause-subtrees c = subtrees_are_built

pub returns-clause-need : goal.returns-clause-need
returns-clause-need c = need_is_bounded

pub returns-clause-need_of_all : goal.returns-clause-need_of_all
returns-clause-need_of_all c = need_of_all_is_bounded

pub returns-clause-outermost : goal.returns-clause-outermost
returns-clause-outermost c = outermost_subtrees_are_built
