use Rattle.rec_offences.proofs.Common.{◌≡◌, ◌∷◌, [], drop, filter, flat_map, heads, is_long, least_with, of_kind}
use Rattle.rec_offences.proofs.offences.limits.note_long_in_rule.Given as goal

abbrev pub invariant-loop-condition : goal.invariant-loop-condition
invariant-loop-condition l =
    least_with l.found (of_kind 13 (filter (is_long l.text) (flat_map heads (flat_map (λ c. c.first ∷ c.second ∷ []) (drop l.condition-index l.condition-items))))) ≡ least_with l.initial.found (of_kind 13 (filter (is_long l.text) (flat_map heads (flat_map (λ c. c.first ∷ c.second ∷ []) l.condition-items))))
