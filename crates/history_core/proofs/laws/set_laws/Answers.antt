use Rattle.history_core.specs.TermSet.{empty}
use Rattle.history_core.proofs.Own.{roots_are_last}
use Rattle.history_core.proofs.Sound.{legal_is_sound}
use Rattle.history_core.proofs.Kept.{collect_keeps_reached, protected_stay}
use Rattle.history_core.proofs.laws.set_laws.Goals as goal

pub returns-clause-sound : goal.returns-clause-sound
returns-clause-sound c = legal_is_sound

pub returns-clause-roots : goal.returns-clause-roots
returns-clause-roots c = λ l caller. roots_are_last empty l caller

pub returns-clause-collected : goal.returns-clause-collected
returns-clause-collected c = collect_keeps_reached

pub returns-clause-protected : goal.returns-clause-protected
returns-clause-protected c = protected_stay
