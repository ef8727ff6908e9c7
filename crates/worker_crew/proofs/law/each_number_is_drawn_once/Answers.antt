use Rattle.worker_crew.proofs.Dealing.{in_one}
use Rattle.worker_crew.proofs.law.each_number_is_drawn_once.Goals as goal

pub returns : goal.returns
returns c = in_one
