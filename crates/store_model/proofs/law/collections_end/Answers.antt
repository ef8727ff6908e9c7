use Rattle.store_model.proofs.Ends.{collection_grows_use, collection_keeps_reached, worn_is_exact, worn_changes_nothing}
use Rattle.store_model.proofs.TreesKept.{collection_keeps_trees}
use Rattle.store_model.proofs.law.collections_end.Goals as goal

pub returns-clause-kept : goal.returns-clause-kept
returns-clause-kept c = collection_keeps_reached

pub returns-clause-worn : goal.returns-clause-worn
returns-clause-worn c = worn_is_exact

pub returns-clause-unchanged : goal.returns-clause-unchanged
returns-clause-unchanged c = worn_changes_nothing

pub returns-clause-trees : goal.returns-clause-trees
returns-clause-trees c = collection_keeps_trees

pub returns-clause-in_use : goal.returns-clause-in_use
returns-clause-in_use c = collection_grows_use
