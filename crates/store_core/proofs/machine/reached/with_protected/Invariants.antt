use Rattle.store_model.specs.Shown.{shown}
use Rattle.store_model.specs.Marks.{Halfway}
use Rattle.store_core.proofs.machine.reached.with_protected.Given as goal

abbrev pub invariant-loop-seat : goal.invariant-loop-seat
invariant-loop-seat l = Halfway l.table.sizes (shown l.table.sizes l.table.words.items) l.seat l.marking.marked.items l.marking.waiting.items
