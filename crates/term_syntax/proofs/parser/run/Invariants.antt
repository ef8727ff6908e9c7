use Rattle.std.proofs.Common.{◌-◌, ◌≤◌, length}
use Rattle.term_syntax.specs.Shown.{machine_in}
use Rattle.term_syntax.proofs.Passing.{Passed}
use Rattle.term_syntax.proofs.parser.run.Given as goal

abbrev pub invariant-loop-at : goal.invariant-loop-at
invariant-loop-at l = record {
  within : l.at ≤ length l.bytes;
  passed : Passed l.bytes l.at (machine_in l.bytes l.machine);
}

abbrev pub decreases-loop-at : goal.decreases-loop-at
decreases-loop-at l = length l.bytes - l.at
