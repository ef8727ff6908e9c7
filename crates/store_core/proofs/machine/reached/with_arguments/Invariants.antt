use Rattle.std.proofs.Common.{◌+◌, length}
use Rattle.store_model.specs.Shown.{shown}
use Rattle.store_model.specs.Marks.{Halfway, unmarked}
use Rattle.store_core.proofs.machine.reached.with_arguments.Given as goal

abbrev pub invariant-loop-row : goal.invariant-loop-row
invariant-loop-row l = Halfway l.table.sizes (shown l.table.sizes l.table.words.items) l.table.sizes.seats l.marking.marked.items l.marking.waiting.items

abbrev pub decreases-loop-row : goal.decreases-loop-row
decreases-loop-row l = unmarked l.marking.marked.items + length l.marking.waiting.items
