use Rattle.rec_offences.proofs.Common.{◌≡◌, ◌++◌, drop, map, flat_map, symbols_of_declaration, symbol_entry, entries_of}
use Rattle.rec_offences.proofs.signatures.add_symbols.Given as goal

abbrev pub invariant-loop-declaration : goal.invariant-loop-declaration
invariant-loop-declaration l =
    entries_of l.signatures.items ++ map symbol_entry (flat_map symbols_of_declaration (drop l.declaration-index l.declaration-items)) ≡ entries_of l.initial.signatures.items ++ map symbol_entry (flat_map symbols_of_declaration l.declaration-items)
