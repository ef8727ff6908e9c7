use Rattle.store_model.proofs.RecallsHold.{start_recalls, steps_recall, runs_recall, named_are_recalled}
use Rattle.store_model.proofs.law.entries_are_recalled.Goals as goal

pub returns-clause-start : goal.returns-clause-start
returns-clause-start c = start_recalls

pub returns-clause-kept : goal.returns-clause-kept
returns-clause-kept c = steps_recall

pub returns-clause-all : goal.returns-clause-all
returns-clause-all c = runs_recall

pub returns-clause-named : goal.returns-clause-named
returns-clause-named c = named_are_recalled
