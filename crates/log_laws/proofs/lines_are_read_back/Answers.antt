use Rattle.log_laws.proofs.Reading.{read_back}
use Rattle.log_laws.proofs.lines_are_read_back.Goals as goal

pub returns : goal.returns
returns c = read_back
