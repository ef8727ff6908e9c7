use Rattle.rec_offences.proofs.Common.{◌≡◌, drop, list_any, is_among, names_of, entries_of}
use Rattle.rec_offences.proofs.entries.clashes.Given as goal

abbrev pub invariant-loop-signature : goal.invariant-loop-signature
invariant-loop-signature l =
    list_any (is_among l.scope.bytes (names_of l.scope.entries)) (names_of (entries_of (drop l.signature-index l.signatures))) ≡ list_any (is_among l.scope.bytes (names_of l.scope.entries)) (names_of (entries_of l.signatures))
