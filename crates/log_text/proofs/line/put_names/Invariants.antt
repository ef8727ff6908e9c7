use Rattle.std.proofs.Common.{◌≡◌, ◌+◌, ◌*◌, ◌≤◌, ◌++◌, length}
use Rattle.std.specs.Prelude.{drop}
use Rattle.log_text.specs.Lines.{names, names_text}
use Rattle.log_text.proofs.line.put_names.Given as goal

abbrev pub invariant-loop-left : goal.invariant-loop-left
invariant-loop-left l =
    (drop l.at l.bytes ≡ names_text (names (drop l.left l.rows)) ++ drop l.fn.end l.fn.bytes)
    × (l.fn.end + 21 * l.left ≤ l.at + 21 * length l.rows) × (l.at ≤ l.fn.end) × (l.left ≤ length l.rows)

abbrev pub decreases-loop-left : goal.decreases-loop-left
decreases-loop-left l = l.left
