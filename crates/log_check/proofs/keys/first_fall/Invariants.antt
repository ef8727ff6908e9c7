use Rattle.std.proofs.Common.{take}
use Rattle.log_check.specs.Verdict.{Rises}
use Rattle.log_check.proofs.keys.first_fall.Given as goal

abbrev pub invariant-loop-i : goal.invariant-loop-i
invariant-loop-i l = Rises (take l.i l.noted)
