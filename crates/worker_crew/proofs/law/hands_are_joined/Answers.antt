use Rattle.worker_crew.proofs.Dealing.{times_append, whole}
use Rattle.worker_crew.proofs.law.hands_are_joined.Goals as goal

pub returns-clause-joined : goal.returns-clause-joined
returns-clause-joined c = λ x v w. times_append x v.numbers w.numbers

pub returns-clause-whole : goal.returns-clause-whole
returns-clause-whole c = whole
