use Rattle.log_check.proofs.Scanning.{Worded}
use Rattle.log_check.proofs.words.first_word.Given as goal

abbrev pub invariant-loop-place : goal.invariant-loop-place
invariant-loop-place l = Worded l.bytes l.place
