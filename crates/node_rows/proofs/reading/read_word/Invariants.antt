use Rattle.store_model.specs.Machine.{ReadWord}
use Rattle.node_rows.proofs.reading.read_word.Given as goal

abbrev pub ghosts-load_chosen : goal.ghosts-load_chosen
ghosts-load_chosen a = record { step = ReadWord a._operands.0 a._operands.1 }
