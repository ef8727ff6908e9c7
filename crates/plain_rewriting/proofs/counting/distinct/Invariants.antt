use Rattle.std.proofs.Common.{◌≡◌, ◌≤◌, length, drop}
use Rattle.term_model.specs.Tree.{distinct}
use Rattle.plain_rewriting.specs.Boxed.{trees}
use Rattle.plain_rewriting.proofs.counting.distinct.Given as goal

-- those from a place on are counted
abbrev pub invariant-loop-at : goal.invariant-loop-at
invariant-loop-at l = (l.count ≡ distinct (trees (drop l.at l.terms))) × (l.at ≤ length l.terms)

abbrev pub decreases-loop-at : goal.decreases-loop-at
decreases-loop-at l = l.at
