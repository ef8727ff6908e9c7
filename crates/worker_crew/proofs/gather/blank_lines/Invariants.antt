use Rattle.std.proofs.Common.{◌≤◌, ◌-◌, vec_len}
use Rattle.worker_crew.proofs.gather.blank_lines.Given as goal

abbrev pub invariant-blank : goal.invariant-blank
invariant-blank l = vec_len l.lines ≤ l.count

abbrev pub decreases-blank : goal.decreases-blank
decreases-blank l = l.count - vec_len l.lines
