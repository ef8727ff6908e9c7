use Rattle.std.proofs.Common.{◌+◌, ◌≤◌, length, Result}
use Rattle.lock_core.specs.declared.reading.LineFault.{LineFault}
use Rattle.lock_core.specs.Lock.{Lock, at_start}
use Rattle.lock_core.specs.Schedule.{lines, ComesTo}
use Rattle.lock_core.proofs.reading.schedule.Given as goal

-- what the lines that are left come to is what all lines come to
abbrev pub invariant-loop-rest : goal.invariant-loop-rest
invariant-loop-rest l =
    record {
      goes_on : (r : Result Lock LineFault) → ComesTo l.seats l.state (l.line + 1) (lines l.rest) r → ComesTo l.seats (at_start l.seats) 1 (lines l.bytes) r;
      count : l.line + length l.rest ≤ length l.bytes;
    }

abbrev pub decreases-loop-rest : goal.decreases-loop-rest
decreases-loop-rest l = length l.rest
