use Rattle.std.proofs.Common.{◌≡◌, ◌++◌}
use Rattle.std.specs.Prelude.{replicate}
use Rattle.innermost.proofs.nodes.push_firsts.Given as goal

abbrev pub invariant-firsts : goal.invariant-firsts
invariant-firsts l = l.way.items ++ replicate l.left 1 ≡ l.fn.way.items ++ replicate l.count 1

abbrev pub decreases-firsts : goal.decreases-firsts
decreases-firsts l = l.left
