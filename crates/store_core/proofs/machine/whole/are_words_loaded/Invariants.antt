use Rattle.std.proofs.Common.{ℕ, ◌<◌}
use Rattle.store_model.specs.Shown.{shown}
use Rattle.store_core.specs.Lines.{LoadsLine}
use Rattle.store_core.specs.declared.machine.whole.Line.TheVariants.{Words}
use Rattle.store_core.proofs.machine.whole.are_words_loaded.Given as goal

abbrev pub invariant-loop-row : goal.invariant-loop-row
invariant-loop-row l = (r : ℕ) → r < l.row → LoadsLine (shown l.table.sizes l.table.words.items) l.loads (Words r) l.width
