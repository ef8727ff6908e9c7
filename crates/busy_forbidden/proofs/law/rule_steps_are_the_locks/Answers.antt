use Rattle.busy_forbidden.proofs.One.{is_lock_step}
use Rattle.busy_forbidden.proofs.law.rule_steps_are_the_locks.Goals as goal

pub returns-clause-locks : goal.returns-clause-locks
returns-clause-locks g c = λ s i v x h may. is_lock_step g.K.HasLock.lock (g.K.HasLock.seats c.args.about.now) g.K.HasLock.can g.K.HasLock.next g.K.HasLock.moves s i v x may

pub returns-clause-keeps : goal.returns-clause-keeps
returns-clause-keeps g c = λ s i v x h may. (g.met.K.HasLock.keeps c.args.about.now).step_keeps s i v x h may.view may.number may.place may.may
