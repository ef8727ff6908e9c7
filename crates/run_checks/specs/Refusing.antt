-- How an output is refused at a line.
use Rattle.std.specs.Prelude.{◌≡◌, ℕ, ◌+◌, ◌<◌, List, ◌++◌, length, map, Option, Some}
use Rattle.run_checks.specs.declared.lines.Output.{Output}
use Rattle.read_faults.specs.declared.fail.ReadFail.{ReadFail}
use Rattle.read_faults.specs.declared.fail.ReadFail.TheVariants.{Refused, Memory}

-- the lines that were taken from an output
abbrev pub seen : Output → List (List ℕ)
seen o = map (λ l. l.now) o.lines.items

-- lines are so many and others
pub record IsCut (count : ℕ) (ls first others : List (List ℕ)) : Type 0 where
  pub whole : ls ≡ first ++ others
  pub size : length first ≡ count

-- the refusal has kind 15 and is at this line; want of memory has no cause
abbrev pub IsWrongAt : Option ℕ → ReadFail → Type 0
IsWrongAt wrong (Refused kind line) = (kind ≡ 15) × (wrong ≡ Some line)
IsWrongAt wrong Memory = Unit {0}

-- there are fewer lines than so many, and the refusal is at the line after the last
abbrev pub IsCutOff : ℕ → List (List ℕ) → ReadFail → Type 0
IsCutOff count ls (Refused kind line) = (kind ≡ 15) × (length ls < count) × (line ≡ length ls + 1)
IsCutOff count ls Memory = Unit {0}
