use Rattle.std.proofs.Common.{ℕ, ◌<◌, get_or}
use Rattle.store_model.specs.Shown.{shown}
use Rattle.store_model.specs.MarkedChains.{StandsIn}
use Rattle.store_core.proofs.machine.marked_chains.all_stand.Given as goal

abbrev pub invariant-loop-row : goal.invariant-loop-row
invariant-loop-row l = (k : ℕ) → k < l.row-index → StandsIn (shown l.table.sizes l.table.words.items) l.in_use l.number (get_or l.rows k 0)
