use Rattle.store_model.specs.Machine.{LoadAny}
use Rattle.node_rows.proofs.collecting.load_any.Given as goal

abbrev pub ghosts-load_place : goal.ghosts-load_place
ghosts-load_place a = record { step = LoadAny a.place }
