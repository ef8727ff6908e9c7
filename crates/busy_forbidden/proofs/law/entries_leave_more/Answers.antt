use Rattle.busy_forbidden.proofs.Leaving.{leaves_run, tries_shared_leaves, enters_shared_leaves, tries_exclusive_leaves, enters_exclusive_leaves}
use Rattle.busy_forbidden.proofs.law.entries_leave_more.Goals as goal

pub returns-clause-steps : goal.returns-clause-steps
returns-clause-steps g c = leaves_run g.K.HasMore.more g.K.HasMore.away g.K.HasLock.next g.met.K.HasMore.leaves

pub returns-clause-tries_shared : goal.returns-clause-tries_shared
returns-clause-tries_shared g c = tries_shared_leaves g.K.HasMore.more g.K.HasMore.away g.K.HasLock.next g.met.K.HasMore.leaves

pub returns-clause-enters_shared : goal.returns-clause-enters_shared
returns-clause-enters_shared g c = enters_shared_leaves g.K.HasMore.more g.K.HasMore.away g.K.HasLock.next g.met.K.HasMore.leaves

pub returns-clause-tries_exclusive : goal.returns-clause-tries_exclusive
returns-clause-tries_exclusive g c = tries_exclusive_leaves g.K.HasMore.more g.K.HasMore.away g.K.HasLock.next g.met.K.HasMore.leaves

pub returns-clause-enters_exclusive : goal.returns-clause-enters_exclusive
returns-clause-enters_exclusive g c = enters_exclusive_leaves g.K.HasMore.more g.K.HasMore.away g.K.HasLock.next g.met.K.HasMore.leaves
