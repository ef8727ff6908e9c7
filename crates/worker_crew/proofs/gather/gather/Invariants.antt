use Rattle.std.proofs.Common.{vec_len}
use Rattle.worker_crew.proofs.Gathering.{Gathering}
use Rattle.worker_crew.proofs.gather.gather.Given as goal

abbrev pub invariant-shares : goal.invariant-shares
invariant-shares l =
    Gathering l.draws.shared.table_id l.fn.shares.items l.shares.items l.fn.all.me.0 l.all.table_id l.all.me l.fn.lines.items l.lines.items

abbrev pub decreases-shares : goal.decreases-shares
decreases-shares l = vec_len l.shares
