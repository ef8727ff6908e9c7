-- A log as it is read, line by line.
use Rattle.std.specs.Prelude.{◌≡◌, ℕ, ◌+◌, ◌-◌, List, [], ◌∷◌, ◌++◌, drop, Option, Some, None, Bool, true, false, ◌&&◌, ◌==◌, nat_lt, if◌then◌else◌, option_and_then, Result, Ok, Err}
use Rattle.log_check.specs.declared.form.LogLine.{LogLine}
use Rattle.log_check.specs.declared.form.LogLine.TheVariants as line
use Rattle.log_check.specs.declared.log.Noted.{Noted}
use Rattle.log_check.specs.declared.log.Stage.{Stage}
use Rattle.log_check.specs.declared.log.Stage.TheVariants.{Before, Inside, After}
use Rattle.log_check.specs.Words.{lines, words_after}
use Rattle.log_check.specs.Form.{is_marked, line_in}

-- what has been read: the rows and callers of the header, how many callers have their line, and the
-- entries
pub record Log : Type 0 where
  pub stage : Stage
  pub rows : ℕ
  pub callers : ℕ
  pub begun : ℕ
  pub noted : List Noted

abbrev pub at_start : Log
at_start = record { stage = Before; rows = 0; callers = 0; begun = 0; noted = [] }

abbrev pub is_before : Stage → Bool
is_before Before = true
is_before Inside = false
is_before After = false

abbrev pub is_inside : Stage → Bool
is_inside Before = false
is_inside Inside = true
is_inside After = false

abbrev pub is_after : Stage → Bool
is_after Before = false
is_after Inside = false
is_after After = true

-- The log with a line that has this number, where the line may stand: the header first, then each
-- caller from 0 in order, each before its entries, and the end after all callers.
abbrev pub placed : ℕ → Log → LogLine → Option Log
placed n log (line.Header rows callers) =
    if is_before log.stage
    then Some (record {
      stage = Inside;
      rows = rows;
      callers = callers;
      begun = 0;
      noted = [];
    }) else None
placed n log (line.Caller j) =
    if is_inside log.stage && (j == log.begun && nat_lt j log.callers)
    then Some (record {
      stage = log.stage;
      rows = log.rows;
      callers = log.callers;
      begun = j + 1;
      noted = log.noted;
    }) else None
placed n log (line.Step e) =
    if is_inside log.stage && nat_lt 0 log.begun
    then Some (record {
      stage = log.stage;
      rows = log.rows;
      callers = log.callers;
      begun = log.begun;
      noted = log.noted ++ record { line = n; caller = log.begun - 1; entry = e } ∷ [];
    }) else None
placed n log line.End =
    if is_inside log.stage && (log.begun == log.callers)
    then Some (record {
      stage = After;
      rows = log.rows;
      callers = log.callers;
      begun = log.begun;
      noted = log.noted;
    }) else None

-- the log with a line of the input, which is passed over where it has no mark; None for a line of a
-- wrong form
abbrev pub taken : ℕ → Log → List ℕ → Option Log
taken n log text = if is_marked text
    then option_and_then (placed n log) (line_in (words_after (drop 1 text))) else Some log

abbrev pub go_on : ℕ → (Log → Result Log ℕ) → Option Log → Result Log ℕ
go_on n rest None = Err n
go_on n rest (Some log) = rest log

-- what lines, numbered from n on, come to: a log, or the number of the first line of a wrong form,
-- that after the last where no end came
abbrev pub come : ℕ → Log → List (List ℕ) → Result Log ℕ
come n log [] = if is_after log.stage then Ok log else Err n
come n log (text ∷ texts) = go_on n (λ next. come (n + 1) next texts) (taken n log text)

-- the log in an input
abbrev pub log_in : List ℕ → Result Log ℕ
log_in bytes = come 1 at_start (lines bytes)

-- a line was taken, or is of a wrong form
abbrev pub IsTaken : Option Log → Log → Bool → Type 0
IsTaken o new true = o ≡ Some new
IsTaken o new false = o ≡ None
