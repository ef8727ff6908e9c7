use Rattle.store_model.specs.Shown.{shown}
use Rattle.store_model.specs.MarkedChains.{StandInFirst}
use Rattle.store_core.proofs.machine.marked_chains.standing_rows.Given as goal

abbrev pub invariant-loop-number : goal.invariant-loop-number
invariant-loop-number l = StandInFirst l.table.sizes (shown l.table.sizes l.table.words.items) l.live l.in_use l.number l.standing.items
