use Rattle.std.proofs.Common.{◌+◌, ◌*◌, length}
use Rattle.rewrite_workers.proofs.threads.+threads.Given as goal

abbrev pub decreases-work_all : goal.decreases-work_all
decreases-work_all g l = 4 * length l.desks.now

abbrev pub decreases-work_both : goal.decreases-work_both
decreases-work_both g l = 4 * length l.desks.now + 2

abbrev pub decreases-work_both-others : goal.decreases-work_both-others
decreases-work_both-others g l = 4 * length l.desks.now + 1
