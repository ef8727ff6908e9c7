-- What a run writes.
use Rattle.std.specs.Prelude.{ℕ, List, Bool, if◌then◌else◌}

-- The bytes, whether the line of each term is its value or its text, whether the input was checked
-- and isn't right, and how many terms were rewritten.
pub record Output : Type 0 where
  pub bytes : List ℕ
  pub values : Bool
  pub refuted : Bool
  pub terms : ℕ

-- the exit status where the whole output was written
abbrev pub status_for : (values refuted : Bool) → ℕ
status_for values refuted = if refuted then 9 else if values then 0 else 1

abbrev pub status_of : Output → ℕ
status_of output = status_for output.values output.refuted
