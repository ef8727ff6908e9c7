use Rattle.std.proofs.Common.{◌≡◌, ◌++◌, length, map}
use Rattle.log_check.specs.Words.{lines}
use Rattle.run_checks.proofs.lines.take_lines.Given as goal

abbrev pub invariant-loop-number : goal.invariant-loop-number
invariant-loop-number l = record {
  whole : lines l.output ≡ map (λ s. s.now) l.taken.items ++ lines l.rest;
  size : length l.taken.items ≡ l.number;
}
