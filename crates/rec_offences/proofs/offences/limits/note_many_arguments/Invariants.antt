use Rattle.rec_offences.proofs.Common.{◌≡◌, drop, slice_get, flat_map, option_to_list, least_with, of_kind}
use Rattle.rec_offences.proofs.offences.limits.note_many_arguments.Given as goal

abbrev pub invariant-loop-declaration : goal.invariant-loop-declaration
invariant-loop-declaration l =
    least_with l.found (of_kind 13 (flat_map (λ d. option_to_list (slice_get d.arguments 16)) (drop l.declaration-index l.declarations))) ≡ least_with l.initial.found (of_kind 13 (flat_map (λ d. option_to_list (slice_get d.arguments 16)) l.declarations))
