-- The log that workers may leave.
use Rattle.std.specs.Prelude.{ℕ, List, Option, IfSome}
use Rattle.history_core.specs.declared.entry.Entry.{Entry}
use Rattle.settings.specs.declared.parts.Settings.{Settings}
use Rattle.shared_work.specs.Running.{IsAskedLog}

-- where there is a log, it was asked, and is of these lists
abbrev pub MayHaveLog : Settings → List (List Entry) → Option (List ℕ) → Type 0
MayHaveLog s lists log = IfSome log (λ text. IsAskedLog s lists text)
