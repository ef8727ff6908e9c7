use Rattle.std.proofs.Common.{◌≡◌, ℕ, ◌+◌, ◌<◌, length}
use Rattle.worker_crew.specs.Crews.{IsAt, IsUncut}
use Rattle.worker_crew.proofs.crew.shares_of.Given as goal

abbrev pub invariant-workers : goal.invariant-workers
invariant-workers l =
    (length l.shares.items ≡ l.worker)
    × ((k : ℕ) → k < l.worker → IsAt l.draws.shared.table_id l.fn.all.me.0.end k l.shares.items)
    × IsUncut l.draws.shared.table_id l.all.table_id l.all.me l.all.me.0
    × (l.all.me.0.shares + l.worker ≡ l.fn.all.me.0.shares)
    × (l.all.me.0.end ≡ l.fn.all.me.0.end)
