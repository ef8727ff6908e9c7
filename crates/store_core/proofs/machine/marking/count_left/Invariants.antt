use Rattle.std.proofs.Common.{◌≡◌, ℕ, ◌≤◌, length}
use Rattle.store_model.specs.Steps.{rows_left}
use Rattle.store_model.specs.Marks.{MarksPlaces}
use Rattle.store_core.proofs.machine.marking.count_left.Given as goal

abbrev pub invariant-loop-row : goal.invariant-loop-row
invariant-loop-row l = (l.count ≤ l.row) × ((place : ℕ → ℕ) (n : ℕ) → MarksPlaces place n l.rows l.free → l.count ≡ length (rows_left place n l.row))
