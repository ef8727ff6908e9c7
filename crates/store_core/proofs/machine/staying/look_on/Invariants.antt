use Rattle.std.proofs.Common.{◌≡◌, take}
use Rattle.store_model.specs.Staying.{joined}
use Rattle.store_core.proofs.machine.staying.look_on.Given as goal

abbrev pub invariant-loop-word : goal.invariant-loop-word
invariant-loop-word l = l.rows.items ≡ joined l.words (take l.word-index l.words) l.fn.rows.items
