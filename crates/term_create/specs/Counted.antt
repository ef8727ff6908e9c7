-- How many atomic steps a creation takes.
use Rattle.std.specs.Prelude.{ℕ, ◌+◌, ◌*◌, ◌≤◌}
use Rattle.store_model.specs.declared.view.Sizes.{Sizes}
use Rattle.store_model.specs.Machine.{widest}

-- those of a row that a walk passes: its words, and the link
abbrev pub row_steps : Sizes → ℕ
row_steps z = widest z + 3

-- From n to m steps a creation has gone from `before` to `after` passed rows, and has taken at most
-- so many steps beside those of the rows.
abbrev pub Takes : (z : Sizes) (beside before after n m : ℕ) → Type 0
Takes z beside before after n m = m + before * row_steps z ≤ n + beside + after * row_steps z
