use Rattle.std.proofs.Common.{◌≡◌}
use Rattle.std.specs.List.{AllByRecursion}
use Rattle.term_file.specs.InOrder.{came_after, visits_at, visits}
use Rattle.term_file.specs.Walking.{Fits, left_in, work}
use Rattle.term_file.proofs.walk.visited_from.Given as goal

abbrev pub invariant-loop-frame : goal.invariant-loop-frame
invariant-loop-frame l = record {
  comes : came_after l.visited (left_in l.table l.frames.items) ≡ came_after l.came (visits_at (visits l.table) l.root);
  fit : AllByRecursion (Fits l.table) l.frames.items;
}

abbrev pub decreases-loop-frame : goal.decreases-loop-frame
decreases-loop-frame l = work l.table l.frames.items
