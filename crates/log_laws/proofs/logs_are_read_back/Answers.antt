use Rattle.log_laws.proofs.Whole.{logs_read_back, good_are_legal}
use Rattle.log_laws.proofs.logs_are_read_back.Goals as goal

pub returns-clause-read : goal.returns-clause-read
returns-clause-read c = logs_read_back

pub returns-clause-legal : goal.returns-clause-legal
returns-clause-legal c = good_are_legal
