use Rattle.store_model.specs.Machine.{StoreAny}
use Rattle.node_rows.proofs.collecting.store_any.Given as goal

abbrev pub ghosts-store_place : goal.ghosts-store_place
ghosts-store_place a = record { step = StoreAny a.place a.value }
