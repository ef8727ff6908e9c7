use Rattle.rec_offences.proofs.Common.{◌≡◌, drop, flat_map, least_with, of_kind, free_variables_of}
use Rattle.rec_offences.proofs.offences.variables.note_free_variables.Given as goal

abbrev pub invariant-loop-rule : goal.invariant-loop-rule
invariant-loop-rule l =
    least_with l.found (of_kind 10 (flat_map (free_variables_of l.text l.scope.bytes l.scope.entries) (drop l.rule-index l.rules))) ≡ least_with l.initial.found (of_kind 10 (flat_map (free_variables_of l.text l.scope.bytes l.scope.entries) l.rules))
