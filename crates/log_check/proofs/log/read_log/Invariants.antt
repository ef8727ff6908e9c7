use Rattle.std.proofs.Common.{◌≡◌, ◌+◌, ◌≤◌, length}
use Rattle.log_check.specs.Words.{lines}
use Rattle.log_check.specs.Log.{come, log_in}
use Rattle.log_check.proofs.log.read_log.Given as goal

-- what the lines that are left come to is what all lines come to
abbrev pub invariant-lines : goal.invariant-lines
invariant-lines l =
    record {
      goes_on : log_in l.bytes ≡ come (l.line + 1) l.log (lines l.rest);
      count : l.line + length l.rest ≤ length l.bytes;
    }

abbrev pub decreases-lines : goal.decreases-lines
decreases-lines l = length l.rest
