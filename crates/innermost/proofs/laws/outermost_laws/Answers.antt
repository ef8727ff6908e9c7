use Rattle.innermost.proofs.Constructs.{constructs}
use Rattle.innermost.proofs.Crumbs.{goes_in, left_same, builds_again, not_again}
use Rattle.innermost.proofs.laws.outermost_laws.Goals as goal

pub returns-clause-instances : goal.returns-clause-instances
returns-clause-instances c = λ bound room p down is stack fuel le. constructs bound room le p down is stack fuel

pub returns-clause-goes_on : goal.returns-clause-goes_on
returns-clause-goes_on c = goes_in

pub returns-clause-same : goal.returns-clause-same
returns-clause-same c = left_same

pub returns-clause-builds : goal.returns-clause-builds
returns-clause-builds c = builds_again

pub returns-clause-no_room : goal.returns-clause-no_room
returns-clause-no_room c = not_again
