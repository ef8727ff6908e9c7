use Rattle.store_model.specs.Machine.{StoreRoot}
use Rattle.node_rows.proofs.reading.store_root.Given as goal

abbrev pub ghosts-store_chosen : goal.ghosts-store_chosen
ghosts-store_chosen a = record { step = StoreRoot a._operand a.value }
