use Rattle.rec_offences.proofs.Common.{◌≡◌, ◌++◌, drop, included_entries, entries_of}
use Rattle.rec_offences.proofs.numbered.symbols_at.Given as goal

abbrev pub invariant-loop-number : goal.invariant-loop-number
invariant-loop-number l =
    entries_of l.signatures.items ++ included_entries l.specifications (drop l.number-index l.numbers) ≡ included_entries l.specifications l.numbers
