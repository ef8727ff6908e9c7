use Rattle.std.proofs.Common.{◌≡◌, ◌-◌, ◌≤◌, length, drop, false}
use Rattle.term_syntax.specs.Tokens.{quoted}
use Rattle.term_syntax.proofs.Pieces.{named_before}
use Rattle.term_syntax.proofs.scanner.quoted.Given as goal

abbrev pub invariant-loop-at : goal.invariant-loop-at
invariant-loop-at l = record {
  from : l.start ≤ l.at;
  within : l.at ≤ length l.bytes;
  read : named_before l.name (quoted l.at l.behind (drop l.at l.bytes)) ≡ quoted l.start false (drop l.start l.bytes);
}

abbrev pub decreases-loop-at : goal.decreases-loop-at
decreases-loop-at l = length l.bytes - l.at
