use Rattle.std.proofs.Common.{arith}
use Rattle.row_sweep.proofs.counting.count_marked.Goals as goal

pub overflow_add-count : goal.overflow_add-count
overflow_add-count c = let f = c.loop-row.invariant.few in omega arith
