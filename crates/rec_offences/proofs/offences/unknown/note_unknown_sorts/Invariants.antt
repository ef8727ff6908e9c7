use Rattle.rec_offences.proofs.Common.{◌≡◌, ◌∷◌, [], ◌++◌, drop, map, filter, flat_map, is_unknown, least_with, of_kind}
use Rattle.rec_offences.proofs.offences.unknown.note_unknown_sorts.Given as goal

abbrev pub invariant-loop-declaration : goal.invariant-loop-declaration
invariant-loop-declaration l =
    least_with l.found (of_kind 4 (filter (is_unknown l.sorts.bytes l.sorts.names) (flat_map (λ d. d.arguments ++ d.sort ∷ []) (drop l.declaration-index l.declaration-items))))
    ≡ least_with l.initial.found (of_kind 4 (filter (is_unknown l.sorts.bytes l.sorts.names) (flat_map (λ d. d.arguments ++ d.sort ∷ []) l.declaration-items)))

abbrev pub invariant-loop-variables : goal.invariant-loop-variables
invariant-loop-variables l =
    least_with l.found (of_kind 4 (filter (is_unknown l.sorts.bytes l.sorts.names) (map (λ v. v.sort) (drop l.variables-index l.variables-items))))
    ≡ least_with l.initial.found (of_kind 4 (filter (is_unknown l.sorts.bytes l.sorts.names) (map (λ v. v.sort) l.variables-items)))
