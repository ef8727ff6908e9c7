use Rattle.rec_offences.proofs.Common.{◌≡◌, ◌++◌, drop, names_of, repeated, least_with, of_kind, entries_of}
use Rattle.rec_offences.proofs.offences.repeated.declare.Given as goal

abbrev pub invariant-loop-signature : goal.invariant-loop-signature
invariant-loop-signature l =
    record {
      bytes : l.scope.bytes ≡ l.initial.scope.bytes;
      entries : l.scope.entries ++ entries_of (drop l.signature-index l.own) ≡ l.initial.scope.entries ++ entries_of l.own;
      noted : least_with l.found (of_kind 6 (repeated l.scope.bytes (names_of l.scope.entries) (names_of (entries_of (drop l.signature-index l.own)))))
          ≡ least_with l.initial.found (of_kind 6 (repeated l.initial.scope.bytes (names_of l.initial.scope.entries) (names_of (entries_of l.own))));
    }
