use Rattle.rec_answers.proofs.Accepting.{traces_are_derived, traces_are_accepted}
use Rattle.rec_answers.proofs.laws.trace_laws.Goals as goal

pub returns-clause-derived : goal.returns-clause-derived
returns-clause-derived c = traces_are_derived

pub returns-clause-accepted : goal.returns-clause-accepted
returns-clause-accepted c = traces_are_accepted
