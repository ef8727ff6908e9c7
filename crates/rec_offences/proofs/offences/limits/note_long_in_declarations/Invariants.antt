use Rattle.rec_offences.proofs.Common.{◌≡◌, drop, filter, flat_map, is_long, names_in_declaration, least_with, of_kind}
use Rattle.rec_offences.proofs.offences.limits.note_long_in_declarations.Given as goal

abbrev pub invariant-loop-declaration : goal.invariant-loop-declaration
invariant-loop-declaration l =
    least_with l.found (of_kind 13 (filter (is_long l.text) (flat_map names_in_declaration (drop l.declaration-index l.declarations))))
    ≡ least_with l.initial.found (of_kind 13 (filter (is_long l.text) (flat_map names_in_declaration l.declarations)))
