-- The log that is written behind the output of a command.
use Rattle.std.specs.Prelude.{◌≡◌, ℕ, Bool, true, List, [], ◌++◌, Option, if◌then◌else◌, unwrap_or}
use Rattle.std.specs.Option.{option_map_or}
use Rattle.history_core.specs.declared.entry.Entry.{Entry}
use Rattle.std.specs.List.{AllByRecursion}
use Rattle.log_text.specs.Lines.{log_of}
use Rattle.log_text.specs.Keys.{HaveKeys}
use Rattle.settings.specs.Words.{settings_of}
use Rattle.settings.specs.declared.parts.Command.{Command}
use Rattle.settings.specs.declared.parts.Command.TheVariants.{Rewrite, Drill, Schedule, Terms, Pack, Unpack, CheckLog, CheckTrace, Outermost}
use Rattle.settings.specs.declared.parts.Settings.{Settings}
use Rattle.rec_answers.specs.Written.{Output}

-- the log of the workers' entries, where one is asked
abbrev pub log_asked : Settings → List (List Entry) → List ℕ
log_asked s lists = if s.log then log_of s.rows lists else []

-- commands that rewrite nothing have none
abbrev pub log_by : Command → Settings → List (List Entry) → List ℕ
log_by Rewrite s lists = log_asked s lists
log_by Drill s lists = log_asked s lists
log_by Schedule s lists = []
log_by Terms s lists = []
log_by Pack s lists = []
log_by Unpack s lists = []
log_by CheckLog s lists = []
log_by CheckTrace s lists = []
log_by Outermost s lists = log_asked s lists

-- the log under the settings that words give
abbrev pub log_under : Option Settings → List (List Entry) → List ℕ
log_under given lists = option_map_or (λ s. log_by s.command s lists) given []

-- the output with the log that the words ask for behind it
abbrev pub with_log : (words : List (List ℕ)) → List (List Entry) → Output → Output
with_log words lists output = record {
  bytes = output.bytes ++ log_under (settings_of words) lists;
  values = output.values;
  refuted = output.refuted;
  terms = output.terms;
}

-- there is one where one is asked
abbrev pub IsThere : Settings → Bool → Type 0
IsThere s there = s.log ≡ true → there ≡ true

-- the bytes of a log that may be there
abbrev pub log_bytes : Option (List ℕ) → List ℕ
log_bytes log = unwrap_or log []

-- where a log is asked, it may tell the keys of all entries
abbrev pub HaveLogKeys : Settings → List (List Entry) → Type 0
HaveLogKeys s lists = s.log ≡ true → AllByRecursion HaveKeys lists
