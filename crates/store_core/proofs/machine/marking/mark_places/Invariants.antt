use Rattle.std.proofs.Common.{get_or}
use Rattle.store_model.specs.Marks.{MarksPlaces}
use Rattle.store_core.proofs.machine.marking.mark_places.Given as goal

abbrev pub invariant-loop-row : goal.invariant-loop-row
invariant-loop-row l = MarksPlaces (λ i. get_or l.places i 0) l.row-index l.rows l.marks.items
