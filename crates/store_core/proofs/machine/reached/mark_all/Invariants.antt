use Rattle.std.proofs.Common.{get_or}
use Rattle.store_model.specs.Marks.{Adds}
use Rattle.store_core.proofs.machine.reached.mark_all.Given as goal

abbrev pub invariant-loop-row : goal.invariant-loop-row
invariant-loop-row l = Adds (λ k. get_or l.rows k 0) l.row-index l.initial.marking.marked.items l.initial.marking.waiting.items l.marking.marked.items l.marking.waiting.items
