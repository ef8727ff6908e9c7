use Rattle.node_rows.proofs.reading.load_root.Given as goal

abbrev pub ghosts-load_root_as : goal.ghosts-load_root_as
ghosts-load_root_as a = record { place = a._place }
