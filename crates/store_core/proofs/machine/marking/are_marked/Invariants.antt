use Rattle.std.proofs.Common.{ℕ, ◌<◌, get_or}
use Rattle.store_model.specs.Marks.{IsMarked}
use Rattle.store_core.proofs.machine.marking.are_marked.Given as goal

abbrev pub invariant-loop-row : goal.invariant-loop-row
invariant-loop-row l = (k : ℕ) → k < l.row-index → IsMarked l.marks (get_or l.rows k 0)
