use Rattle.rec_offences.proofs.Common.{◌≡◌, drop, filter, flat_map, heads, is_long, names_in_variables, terms_of, least_with, of_kind}
use Rattle.rec_offences.proofs.offences.limits.note_long_names.Given as goal

abbrev pub invariant-loop-variables : goal.invariant-loop-variables
invariant-loop-variables l =
    least_with l.found (of_kind 13 (filter (is_long l.text) (flat_map names_in_variables (drop l.variables-index l.variables-items)))) ≡ least_with l.initial.found (of_kind 13 (filter (is_long l.text) (flat_map names_in_variables l.variables-items)))

abbrev pub invariant-loop-rule : goal.invariant-loop-rule
invariant-loop-rule l =
    least_with l.found (of_kind 13 (filter (is_long l.text) (flat_map heads (flat_map terms_of (drop l.rule-index l.rule-items))))) ≡ least_with l.initial.found (of_kind 13 (filter (is_long l.text) (flat_map heads (flat_map terms_of l.rule-items))))

abbrev pub invariant-loop-term : goal.invariant-loop-term
invariant-loop-term l =
    least_with l.found (of_kind 13 (filter (is_long l.text) (flat_map heads (drop l.term-index l.term-items)))) ≡ least_with l.initial.found (of_kind 13 (filter (is_long l.text) (flat_map heads l.term-items)))
