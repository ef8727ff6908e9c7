use Rattle.rec_offences.proofs.Common.{◌≡◌, drop, flat_map, clashing_sides, least_with, of_kind}
use Rattle.rec_offences.proofs.offences.sides.note_clashing_sides.Given as goal

abbrev pub invariant-loop-rule : goal.invariant-loop-rule
invariant-loop-rule l =
    least_with l.found (of_kind 8 (flat_map (clashing_sides l.scope.bytes l.scope.entries) (drop l.rule-index l.rules))) ≡ least_with l.initial.found (of_kind 8 (flat_map (clashing_sides l.scope.bytes l.scope.entries) l.rules))
