use Rattle.store_model.specs.Machine.{StoreCount}
use Rattle.node_rows.proofs.reading.store_root_count.Given as goal

abbrev pub ghosts-store_chosen : goal.ghosts-store_chosen
ghosts-store_chosen a = record { step = StoreCount a.value }
