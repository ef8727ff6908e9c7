use Rattle.std.proofs.Common.{◌≡◌, map, take}
use Rattle.rec_answers.proofs.joining.workers_of.Given as goal

abbrev pub invariant-loop-line : goal.invariant-loop-line
invariant-loop-line l = l.workers ≡ map (λ k. k.worker) (take l.line-index l.lines)
