use Rattle.std.proofs.Common.{◌-◌, ◌≤◌, length}
use Rattle.rec_reader.proofs.Passing.{Passed}
use Rattle.rec_reader.proofs.parser.run_bytes.Given as goal

abbrev pub invariant-loop-at : goal.invariant-loop-at
invariant-loop-at l = record {
  within : l.at ≤ length l.bytes;
  passed : Passed l.bytes l.at l.machine;
}

abbrev pub decreases-loop-at : goal.decreases-loop-at
decreases-loop-at l = length l.bytes - l.at
