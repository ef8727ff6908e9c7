-- What is written with a log is a good log.
use Rattle.std.specs.Prelude.{◌≡◌, ℕ, List, Option, Some, true}
use Rattle.history_core.specs.declared.entry.Entry.{Entry}
use Rattle.settings.specs.Words.{settings_of}
use Rattle.settings.specs.declared.parts.Settings.{Settings}
use Rattle.log_check.specs.Log.{log_in}
use Rattle.log_check.specs.Verdict.{IsFound}
use Rattle.log_check.specs.declared.verdict.LogVerdict.{LogVerdict}
use Rattle.log_check.specs.declared.verdict.LogVerdict.TheVariants.{Legal}
use Rattle.log_laws.specs.Whole.{IsLogOf, entries_in}
use Rattle.rec_answers.specs.Checked.{IsGoodLog}
use Rattle.rec_answers.specs.Logged.{with_log}
use Rattle.rec_answers.specs.Run.{HasOutput, Rewrites}
use Rattle.rec_answers.specs.Written.{Output}

-- The bytes are read as a log with so many rows, of these lists. It is good, and nothing else is
-- found of it but that it is legal, with the number of all entries.
pub record IsGoodLogOf (rows : ℕ) (lists : List (List Entry)) (bytes : List ℕ) : Type 0 where
  pub read : IsLogOf rows lists bytes
  pub good : IsGoodLog bytes
  pub legal : (verdict : LogVerdict) → IsFound (log_in bytes) verdict
      → verdict ≡ Legal (entries_in lists)

-- Where the words ask for rewriting with a log, the output with the log of these lists behind it is
-- such a log.
abbrev pub HasGoodLog : {S : Type 0} (words : List (List ℕ)) (left : S → Option (List ℕ))
    (old new : S) → List (List Entry) → Type 0
HasGoodLog words left old new lists =
    (s : Settings) → settings_of words ≡ Some s → Rewrites s.command → s.log ≡ true
    → (output : Output) → HasOutput words left old new output
    → IsGoodLogOf s.rows lists (with_log words lists output).bytes
