use Rattle.std.proofs.Common.{◌≡◌, length, drop}
use Rattle.std.specs.Prelude.{Contains}
use Rattle.term_model.specs.declared.Row.{Row}
use Rattle.term_text.specs.Tally.{IsCounted}
use Rattle.term_text.proofs.counting.forget.Given as goal

-- what is still counted comes later in the list
abbrev pub invariant-loop-row : goal.invariant-loop-row
invariant-loop-row l =
    record {
      size : length l.counts ≡ length l.fn.counts;
      later : (r : Row) → IsCounted l.counts r → Contains (drop l.row-index l.rows) r;
    }
