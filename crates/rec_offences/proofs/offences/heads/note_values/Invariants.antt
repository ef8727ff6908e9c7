use Rattle.rec_offences.proofs.Common.{◌≡◌, [], drop, true, flat_map, visits, least_with, at_side}
use Rattle.rec_offences.proofs.offences.heads.note_values.Given as goal

abbrev pub invariant-loop-term : goal.invariant-loop-term
invariant-loop-term l =
    least_with l.found (flat_map (at_side true l.scope.bytes l.scope.entries) (flat_map (visits []) (drop l.term-index l.terms))) ≡ least_with l.initial.found (flat_map (at_side true l.scope.bytes l.scope.entries) (flat_map (visits []) l.terms))
