use Rattle.rec_offences.proofs.Common.{◌≡◌, drop, filter, heads, is_long, least_with, of_kind}
use Rattle.rec_offences.proofs.offences.limits.note_long_heads.Given as goal

abbrev pub invariant-loop-node : goal.invariant-loop-node
invariant-loop-node l =
    least_with l.found (of_kind 13 (filter (is_long l.text) (heads (drop l.node-index l.nodes)))) ≡ least_with l.initial.found (of_kind 13 (filter (is_long l.text) (heads l.nodes)))
