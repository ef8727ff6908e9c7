use Rattle.std.proofs.Common.{ℕ, ◌<◌}
use Rattle.store_model.specs.declared.view.Place.TheVariants.{RootCount}
use Rattle.store_model.specs.Shown.{shown}
use Rattle.store_core.specs.Lines.{LoadsLine}
use Rattle.store_core.specs.declared.machine.whole.Line.TheVariants.{Roots}
use Rattle.store_core.proofs.machine.whole.are_roots_loaded.Given as goal

abbrev pub invariant-loop-seat : goal.invariant-loop-seat
invariant-loop-seat l = (j : ℕ) → j < l.seat → LoadsLine (shown l.table.sizes l.table.words.items) l.loads (Roots j) (shown l.table.sizes l.table.words.items (RootCount j))
