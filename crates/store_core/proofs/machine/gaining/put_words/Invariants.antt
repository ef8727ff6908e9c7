use Rattle.std.proofs.Common.{◌≡◌, ◌≤◌, ◌++◌, drop, length}
use Rattle.store_model.specs.Machine.{words_known}
use Rattle.store_core.proofs.machine.gaining.put_words.Given as goal

abbrev pub invariant-loop-word : goal.invariant-loop-word
invariant-loop-word l = (l.known ≡ words_known l.row l.word (drop l.word l.words) ++ l.fn.known) × (l.word ≤ length l.words)

abbrev pub decreases-loop-word : goal.decreases-loop-word
decreases-loop-word l = l.word
