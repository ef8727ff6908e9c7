use Rattle.std.proofs.Common.{◌≡◌, ◌≤◌, ◌-◌, ◌++◌, length}
use Rattle.rec_answers.specs.Traced.{told_before}
use Rattle.rec_answers.proofs.events.push_traces.Given as goal

abbrev pub invariant-terms : goal.invariant-terms
invariant-terms l = (l.number ≤ length l.lines) × (l.text.items ≡ l.fn.text.items ++ told_before l.lines l.traces l.number)

abbrev pub decreases-terms : goal.decreases-terms
decreases-terms l = length l.lines - l.number
