-- A whole log that is written is read as a log of the same entries, and found legal where they are
-- good.
use Rattle.std.specs.Prelude.{◌≡◌, ℕ, ◌+◌, ◌≤◌, ◌==◌, List, [], ◌∷◌, ◌++◌, length, false, Ok}
use Rattle.std.specs.List.{AllByRecursion}
use Rattle.history_core.specs.declared.entry.Entry.{Entry}
use Rattle.history_core.specs.Chronicle.{IsGood}
use Rattle.log_check.specs.declared.verdict.LogVerdict.{LogVerdict}
use Rattle.log_check.specs.declared.verdict.LogVerdict.TheVariants.{Legal}
use Rattle.log_check.specs.Form.{is_marked}
use Rattle.log_check.specs.Log.{Log, log_in}
use Rattle.log_check.specs.Verdict.{lists_of, IsFound}
use Rattle.log_text.specs.Lines.{log_of}
use Rattle.log_laws.specs.ReadBack.{MayTell}

-- texts as lines: each ends with a line feed
abbrev pub lined : List (List ℕ) → List ℕ
lined [] = []
lined (text ∷ texts) = (text ++ 10 ∷ []) ++ lined texts

-- a text that may stand as a line beside a log: it has no line feed, and not the mark of a log
abbrev pub StandsBeside : List ℕ → Type 0
StandsBeside text = AllByRecursion (λ b. (b == 10) ≡ false) text × (is_marked text ≡ false)

-- how many entries callers have
abbrev pub entries_in : List (List Entry) → ℕ
entries_in [] = 0
entries_in (entries ∷ rest) = length entries + entries_in rest

-- A log that may be told: 1 to 262,144 rows, 1 to 16 callers, and entries that may be told.
pub record MayTellAll (rows : ℕ) (lists : List (List Entry)) : Type 0 where
  pub has_rows : (1 ≤ rows) × (rows ≤ 262144)
  pub has_callers : (1 ≤ length lists) × (length lists ≤ 16)
  pub entries : AllByRecursion (AllByRecursion MayTell) lists

-- the bytes are a log with so many rows, of these lists
pub record IsLogOf (rows : ℕ) (lists : List (List Entry)) (bytes : List ℕ) : Type 0 where
  pub log : Log
  pub log_is : log_in bytes ≡ Ok log
  pub rows_are : log.rows ≡ rows
  pub lists_are : lists_of log ≡ lists
  pub count : length log.noted ≡ entries_in lists

-- Behind any lines that may stand beside it, a log that is written is read as a log of those lists.
abbrev pub LogsAreReadBack : Type 0
LogsAreReadBack = (rows : ℕ) (lists : List (List Entry)) → MayTellAll rows lists
    → (beside : List (List ℕ)) → AllByRecursion StandsBeside beside
    → IsLogOf rows lists (lined beside ++ log_of rows lists)

-- and where the lists are good it is found legal, with the number of their entries, and nothing
-- else is found of it
abbrev pub GoodLogsAreLegal : Type 0
GoodLogsAreLegal = (rows : ℕ) (lists : List (List Entry)) → MayTellAll rows lists
    → (beside : List (List ℕ)) → AllByRecursion StandsBeside beside
    → IsGood rows lists → (verdict : LogVerdict)
    → IsFound (log_in (lined beside ++ log_of rows lists)) verdict
    → verdict ≡ Legal (entries_in lists)
