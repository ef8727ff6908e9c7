use Rattle.rec_offences.proofs.Common.{◌≡◌, drop, repeated, least_with, of_kind}
use Rattle.rec_offences.proofs.offences.repeated.note_repeated.Given as goal

abbrev pub invariant-loop-name : goal.invariant-loop-name
invariant-loop-name l =
    record {
      bytes : l.earlier.bytes ≡ l.initial.earlier.bytes;
      noted : least_with l.found (of_kind 6 (repeated l.earlier.bytes l.earlier.names (drop l.name-index l.names)))
          ≡ least_with l.initial.found (of_kind 6 (repeated l.initial.earlier.bytes l.initial.earlier.names l.names));
    }
