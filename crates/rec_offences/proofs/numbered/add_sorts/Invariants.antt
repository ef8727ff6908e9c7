use Rattle.rec_offences.proofs.Common.{◌≡◌, ◌++◌, drop, sorts_of}
use Rattle.rec_offences.proofs.numbered.add_sorts.Given as goal

abbrev pub invariant-loop-number : goal.invariant-loop-number
invariant-loop-number l =
    record {
      bytes : l.sorts.bytes ≡ l.initial.sorts.bytes;
      names : l.sorts.names ++ sorts_of l.specifications (drop l.number-index l.numbers) ≡ l.initial.sorts.names ++ sorts_of l.specifications l.numbers;
    }
