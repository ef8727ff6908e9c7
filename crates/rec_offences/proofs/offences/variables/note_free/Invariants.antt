use Rattle.rec_offences.proofs.Common.{◌≡◌, drop, not, ◌&&◌, filter, is_among, is_variable, heads, least_with, of_kind}
use Rattle.rec_offences.proofs.offences.variables.note_free.Given as goal

abbrev pub invariant-loop-node : goal.invariant-loop-node
invariant-loop-node l =
    least_with l.found (of_kind 10 (filter (λ n. is_variable l.scope.bytes l.scope.entries n && not (is_among l.left.bytes l.left.names n)) (heads (drop l.node-index l.nodes)))) ≡ least_with l.initial.found (of_kind 10 (filter (λ n. is_variable l.scope.bytes l.scope.entries n && not (is_among l.left.bytes l.left.names n)) (heads l.nodes)))
