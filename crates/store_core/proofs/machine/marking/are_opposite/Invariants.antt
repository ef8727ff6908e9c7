use Rattle.std.proofs.Common.{◌≢◌, ℕ, ◌<◌, false, get_or}
use Rattle.store_core.proofs.machine.marking.are_opposite.Given as goal

abbrev pub invariant-loop-row : goal.invariant-loop-row
invariant-loop-row l = (r : ℕ) → r < l.row → get_or l.live r false ≢ get_or l.free r false
