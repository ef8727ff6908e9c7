use Rattle.rec_offences.proofs.Common.{◌≡◌, ◌∷◌, [], drop, false, flat_map, visits, least_with, at_side}
use Rattle.rec_offences.proofs.offences.heads.note_terms_of.Given as goal

abbrev pub invariant-loop-condition : goal.invariant-loop-condition
invariant-loop-condition l =
    least_with l.found (flat_map (at_side false l.scope.bytes l.scope.entries) (flat_map (visits []) (flat_map (λ c. c.first ∷ c.second ∷ []) (drop l.condition-index l.condition-items)))) ≡ least_with l.initial.found (flat_map (at_side false l.scope.bytes l.scope.entries) (flat_map (visits []) (flat_map (λ c. c.first ∷ c.second ∷ []) l.condition-items)))
