use Rattle.rec_check.proofs.Common.{◌≡◌, drop, map, entries_of, named_by, with_symbols}
use Rattle.rec_check.proofs.spelling.add_symbols.Given as goal

abbrev pub invariant-loop-symbol : goal.invariant-loop-symbol
invariant-loop-symbol l =
    with_symbols l.table.symbols (map (named_by l.text) (entries_of (drop l.symbol-index l.symbols)))
    ≡ with_symbols l.initial.table.symbols (map (named_by l.text) (entries_of l.symbols))
