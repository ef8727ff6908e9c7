use Rattle.std.specs.Prelude.{◌≡◌, ◌≤◌}
use Rattle.row_sweep.specs.Marked.{marked_below}
use Rattle.row_sweep.proofs.counting.count_marked.Given as goal

abbrev pub invariant-loop-row : goal.invariant-loop-row
invariant-loop-row l = record {
  count : l.count ≡ marked_below l.marks l.row;
  few : l.count ≤ l.row;
}
