use Rattle.log_laws.proofs.Good.{good_told}
use Rattle.log_laws.proofs.good_entries_may_be_told.Goals as goal

pub returns : goal.returns
returns c = good_told
