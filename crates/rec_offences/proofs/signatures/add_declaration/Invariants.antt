use Rattle.rec_offences.proofs.Common.{◌≡◌, ◌++◌, drop, map, declared, symbol_entry, entries_of}
use Rattle.rec_offences.proofs.signatures.add_declaration.Given as goal

abbrev pub invariant-loop-name : goal.invariant-loop-name
invariant-loop-name l =
    entries_of l.signatures.items ++ map symbol_entry (map (λ n. declared n l.declaration.arguments l.declaration.sort) (drop l.name-index l.name-items)) ≡ entries_of l.initial.signatures.items ++ map symbol_entry (map (λ n. declared n l.declaration.arguments l.declaration.sort) l.name-items)
