-- No row is counted, and there is room to count them.
use Rattle.std.specs.Prelude.{◌≡◌, ◌≤◌, ℕ, [], Contains, vec_capacity}
use Rattle.term_model.specs.declared.Row.{Row}
use Rattle.term_text.specs.declared.counting.Tally.{Tally}
use Rattle.term_text.specs.Tally.{IsCounted, HasRoom, count_at}

pub record IsClear (tally : Tally) : Type 0 where
  pub none : (r : Row) → count_at tally.counts.items r ≡ 0
  pub rows : tally.rows.items ≡ []
  pub path : tally.path.items ≡ []
  pub room : HasRoom tally

-- there are places for the counts of so many rows, for the list of them, and for a path through
-- them
pub record HasPlaces (tally : Tally) (rows : ℕ) : Type 0 where
  pub counts : rows ≤ vec_capacity tally.counts
  pub listed : rows ≤ vec_capacity tally.rows
  pub path : rows ≤ vec_capacity tally.path

-- the counted rows are listed, and none is visited
pub record IsIdle (tally : Tally) : Type 0 where
  pub listed : (r : Row) → IsCounted tally.counts.items r → Contains tally.rows.items r
  pub only : (r : Row) → Contains tally.rows.items r → IsCounted tally.counts.items r
  pub path : tally.path.items ≡ []
  pub room : HasRoom tally
