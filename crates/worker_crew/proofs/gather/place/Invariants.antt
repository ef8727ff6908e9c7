use Rattle.std.proofs.Common.{vec_len}
use Rattle.worker_crew.proofs.Gathering.{Placing}
use Rattle.worker_crew.proofs.gather.place.Given as goal

abbrev pub invariant-lines : goal.invariant-lines
invariant-lines l = Placing l.fn.made.items l.made.items l.fn.lines.items l.lines.items

abbrev pub decreases-lines : goal.decreases-lines
decreases-lines l = vec_len l.made
