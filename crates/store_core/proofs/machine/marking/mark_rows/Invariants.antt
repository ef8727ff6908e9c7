use Rattle.std.proofs.Common.{get_or}
use Rattle.store_model.specs.Marks.{Marks}
use Rattle.store_core.proofs.machine.marking.mark_rows.Given as goal

abbrev pub invariant-loop-row : goal.invariant-loop-row
invariant-loop-row l = Marks (λ k. get_or l.rows k 0) l.row-index l.initial.marks l.marks
