use Rattle.store_model.specs.Shown.{shown}
use Rattle.store_core.specs.RowLists.{item_place, AreListed}
use Rattle.store_core.proofs.machine.row_lists.rows_of.Given as goal

abbrev pub invariant-loop-k : goal.invariant-loop-k
invariant-loop-k l = AreListed (λ k. shown l.table.sizes l.table.words.items (item_place l.list k)) l.table.sizes.rows l.k l.rows.items
