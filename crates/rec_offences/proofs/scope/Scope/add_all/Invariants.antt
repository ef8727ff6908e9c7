use Rattle.rec_offences.proofs.Common.{◌≡◌, ◌++◌, drop, entries_of}
use Rattle.rec_offences.proofs.scope.Scope.add_all.Given as goal

abbrev pub invariant-loop-signature : goal.invariant-loop-signature
invariant-loop-signature l =
    record {
      bytes : l.self.bytes ≡ l.initial.self.bytes;
      entries : l.self.entries ++ entries_of (drop l.signature-index l.signatures) ≡ l.initial.self.entries ++ entries_of l.signatures;
    }
