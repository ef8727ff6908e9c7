use Rattle.rec_offences.proofs.Common.{◌≡◌, drop, not, filter, is_among, least_with, of_kind, earlier_headers}
use Rattle.rec_offences.proofs.offences.unknown.note_unknown_includes.Given as goal

abbrev pub invariant-loop-entry : goal.invariant-loop-entry
invariant-loop-entry l =
    least_with l.found (of_kind 12 (filter (λ n. not (is_among l.turn.headers.now.bytes (earlier_headers l.turn) n)) (drop l.entry-index l.entry-items))) ≡ least_with l.initial.found (of_kind 12 (filter (λ n. not (is_among l.turn.headers.now.bytes (earlier_headers l.turn) n)) l.entry-items))
