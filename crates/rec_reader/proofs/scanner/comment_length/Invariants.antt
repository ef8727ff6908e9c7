use Rattle.std.proofs.Common.{◌≡◌, ◌+◌, ◌-◌, ◌≤◌, length, drop}
use Rattle.rec_reader.specs.Tokens.{comment_length}
use Rattle.rec_reader.proofs.scanner.comment_length.Given as goal

abbrev pub invariant-loop-at : goal.invariant-loop-at
invariant-loop-at l = record {
  from : l.start ≤ l.at;
  within : l.at ≤ length l.bytes;
  counted : l.at + comment_length (drop l.at l.bytes) ≡ l.start + comment_length (drop l.start l.bytes);
}

abbrev pub decreases-loop-at : goal.decreases-loop-at
decreases-loop-at l = length l.bytes - l.at
