use Rattle.rec_offences.proofs.Common.{◌≡◌, drop, filter, is_unknown, least_with, of_kind}
use Rattle.rec_offences.proofs.offences.unknown.note_unknown_in.Given as goal

abbrev pub invariant-loop-sort : goal.invariant-loop-sort
invariant-loop-sort l =
    least_with l.found (of_kind 4 (filter (is_unknown l.sorts.bytes l.sorts.names) (drop l.sort-index l.sort-items))) ≡ least_with l.initial.found (of_kind 4 (filter (is_unknown l.sorts.bytes l.sorts.names) l.sort-items))
