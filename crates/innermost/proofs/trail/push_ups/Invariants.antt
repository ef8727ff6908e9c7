use Rattle.std.proofs.Common.{◌≡◌, ◌++◌}
use Rattle.rewrite_model.specs.Trace.{ups}
use Rattle.innermost.proofs.trail.push_ups.Given as goal

abbrev pub invariant-ups : goal.invariant-ups
invariant-ups l = l.moves.items ++ ups l.left ≡ l.fn.moves.items ++ ups l.count

abbrev pub decreases-ups : goal.decreases-ups
decreases-ups l = l.left
