use Rattle.std.proofs.Common.{◌-◌, ◌≤◌, length}
use Rattle.term_syntax.proofs.Cutting.{ReadTo}
use Rattle.term_syntax.proofs.scanner.look_through.Given as goal

abbrev pub invariant-loop-at : goal.invariant-loop-at
invariant-loop-at l = record {
  within : l.at ≤ length l.bytes;
  read : ReadTo l.bytes l.at;
}

abbrev pub decreases-loop-at : goal.decreases-loop-at
decreases-loop-at l = length l.bytes - l.at
