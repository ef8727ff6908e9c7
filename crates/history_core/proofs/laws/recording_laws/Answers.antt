use Rattle.history_core.proofs.Recorded.{start_is_faithful, make_keeps, find_keeps, roots_keep, collect_keeps}
use Rattle.history_core.proofs.laws.recording_laws.Goals as goal

pub returns-clause-make : goal.returns-clause-make
returns-clause-make c = make_keeps

pub returns-clause-find : goal.returns-clause-find
returns-clause-find c = find_keeps

pub returns-clause-roots : goal.returns-clause-roots
returns-clause-roots c = roots_keep

pub returns-clause-collect : goal.returns-clause-collect
returns-clause-collect c = collect_keeps

pub returns-clause-start : goal.returns-clause-start
returns-clause-start c = start_is_faithful
