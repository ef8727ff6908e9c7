use Rattle.rec_offences.proofs.Common.{◌≡◌, drop, flat_map, clashing_side, least_with, of_kind}
use Rattle.rec_offences.proofs.offences.sides.note_clashing_in_rule.Given as goal

abbrev pub invariant-loop-condition : goal.invariant-loop-condition
invariant-loop-condition l =
    least_with l.found (of_kind 8 (flat_map (λ c. clashing_side l.scope.bytes l.scope.entries c.first c.second) (drop l.condition-index l.condition-items))) ≡ least_with l.initial.found (of_kind 8 (flat_map (λ c. clashing_side l.scope.bytes l.scope.entries c.first c.second) l.condition-items))
