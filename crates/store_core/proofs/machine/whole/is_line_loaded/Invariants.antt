use Rattle.store_model.specs.Shown.{shown}
use Rattle.store_core.specs.Lines.{LoadsLine}
use Rattle.store_core.proofs.machine.whole.is_line_loaded.Given as goal

abbrev pub invariant-loop-k : goal.invariant-loop-k
invariant-loop-k l = LoadsLine (shown l.table.sizes l.table.words.items) l.loads l.line l.k
