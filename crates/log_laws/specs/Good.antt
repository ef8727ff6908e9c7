-- Good entries may be told, where a log may tell their keys and the heads of the trees that they
-- name.
use Rattle.std.specs.Prelude.{ℕ, ◌<◌, ◌≤◌, List, length}
use Rattle.std.specs.List.{AllByRecursion}
use Rattle.history_core.specs.declared.entry.Entry.{Entry}
use Rattle.history_core.specs.TermSet.{empty}
use Rattle.history_core.specs.Told.{told, named}
use Rattle.history_core.specs.Chronicle.{chronicle, IsGood}
use Rattle.log_text.specs.Keys.{HaveKeys}
use Rattle.log_laws.specs.Told.{AllHeads, may_tell}
use Rattle.log_laws.specs.Whole.{MayTellAll}

-- the trees that a caller's creations name, each at its place in the chronicle, have heads that may
-- be told
abbrev pub NamesToldTrees : List (List Entry) → Type 0
NamesToldTrees lists = (caller : ℕ) → caller < length lists
    → AllByRecursion (AllHeads may_tell) (told named caller empty (chronicle lists))

-- as many rows and callers as a log may have
pub record MayHaveLog (rows : ℕ) (lists : List (List Entry)) : Type 0 where
  pub has_rows : (1 ≤ rows) × (rows ≤ 262144)
  pub has_callers : (1 ≤ length lists) × (length lists ≤ 16)

abbrev pub GoodMayBeTold : Type 0
GoodMayBeTold = (rows : ℕ) (lists : List (List Entry)) → MayHaveLog rows lists → IsGood rows lists
    → AllByRecursion HaveKeys lists → NamesToldTrees lists → MayTellAll rows lists
