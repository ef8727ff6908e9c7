use Rattle.std.proofs.Common.{◌-◌, length}
use Rattle.store_model.specs.Shown.{shown}
use Rattle.store_model.specs.declared.view.Place.TheVariants.{Bucket}
use Rattle.store_model.specs.MarkedChains.{HasPassed}
use Rattle.store_core.proofs.machine.marked_chains.chain_of.Given as goal

abbrev pub invariant-loop-at : goal.invariant-loop-at
invariant-loop-at l = HasPassed l.table.sizes (shown l.table.sizes l.table.words.items) (shown l.table.sizes l.table.words.items (Bucket l.number)) l.at l.rows.items

abbrev pub decreases-loop-at : goal.decreases-loop-at
decreases-loop-at l = l.table.sizes.rows - length l.rows.items
