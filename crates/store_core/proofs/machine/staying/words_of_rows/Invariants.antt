use Rattle.std.proofs.Common.{◌≡◌, take}
use Rattle.store_model.specs.Staying.{words_of_rows}
use Rattle.store_core.proofs.machine.staying.words_of_rows.Given as goal

abbrev pub invariant-loop-word : goal.invariant-loop-word
invariant-loop-word l = l.kept ≡ words_of_rows l.rows (take l.word-index l.words)
