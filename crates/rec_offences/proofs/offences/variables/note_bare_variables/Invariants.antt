use Rattle.rec_offences.proofs.Common.{◌≡◌, drop, filter, flat_map, option_to_list, is_variable, root, least_with, of_kind}
use Rattle.rec_offences.proofs.offences.variables.note_bare_variables.Given as goal

abbrev pub invariant-loop-rule : goal.invariant-loop-rule
invariant-loop-rule l =
    least_with l.found (of_kind 9 (flat_map (λ r. filter (is_variable l.scope.bytes l.scope.entries) (option_to_list (root r.left))) (drop l.rule-index l.rules))) ≡ least_with l.initial.found (of_kind 9 (flat_map (λ r. filter (is_variable l.scope.bytes l.scope.entries) (option_to_list (root r.left))) l.rules))
