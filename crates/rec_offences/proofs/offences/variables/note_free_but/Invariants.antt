use Rattle.rec_offences.proofs.Common.{◌≡◌, ◌++◌, drop, not, ◌&&◌, filter, flat_map, is_among, is_variable, heads, least_with, of_kind}
use Rattle.rec_offences.proofs.offences.variables.note_free_but.Given as goal

abbrev pub invariant-loop-condition : goal.invariant-loop-condition
invariant-loop-condition l =
    least_with l.found (of_kind 10 (filter (λ n. is_variable l.scope.bytes l.scope.entries n && not (is_among l.left.bytes l.left.names n)) (heads (flat_map (λ c. c.first ++ c.second) (drop l.condition-index l.condition-items))))) ≡ least_with l.initial.found (of_kind 10 (filter (λ n. is_variable l.scope.bytes l.scope.entries n && not (is_among l.left.bytes l.left.names n)) (heads (flat_map (λ c. c.first ++ c.second) l.condition-items))))
