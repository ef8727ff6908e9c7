use Rattle.lock_core.specs.Lock.{at_start}
use Rattle.lock_core.proofs.Kept.{kept, sound_at_start, sound_along, excludes}
use Rattle.lock_core.proofs.exclusion.exclusion_holds.Goals as goal

pub returns-clause-kept : goal.returns-clause-kept
returns-clause-kept c = kept

pub returns-clause-facts : goal.returns-clause-facts
returns-clause-facts c = λ n xs l path. sound_along xs (at_start n) l (sound_at_start n) path

pub returns-clause-alone : goal.returns-clause-alone
returns-clause-alone c = λ n xs l path. excludes l (sound_along xs (at_start n) l (sound_at_start n) path)
