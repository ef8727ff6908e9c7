use Rattle.rec_offences.proofs.Common.{◌≡◌, drop, filter, is_long, least_with, of_kind}
use Rattle.rec_offences.proofs.offences.limits.note_long.Given as goal

abbrev pub invariant-loop-name : goal.invariant-loop-name
invariant-loop-name l =
    least_with l.found (of_kind 13 (filter (is_long l.text) (drop l.name-index l.names))) ≡ least_with l.initial.found (of_kind 13 (filter (is_long l.text) l.names))
