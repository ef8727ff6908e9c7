use Rattle.std.proofs.Common.{ℕ, ◌<◌}
use Rattle.store_model.specs.Marks.{IsMarked}
use Rattle.store_core.proofs.machine.marked_chains.do_all_stand.Given as goal

abbrev pub invariant-loop-row : goal.invariant-loop-row
invariant-loop-row l = (r : ℕ) → r < l.row → IsMarked l.live r → IsMarked l.standing r
