-- The keys of what passes noted.
use Rattle.std.specs.Prelude.{ℕ, ◌^◌, Bool, List, Option, None, nat_lt, if◌then◌else◌}
use Rattle.std.specs.List.{list_all}
use Rattle.history_core.specs.declared.entry.Entry.{Entry}
use Rattle.history_core.specs.Chronicle.{KeysRise}
use Rattle.log_text.specs.Keys.{HaveKeys}
use Rattle.node_rows.specs.declared.store.Last.{Last}
use Rattle.node_rows.specs.declared.store.Last.TheVariants.{Nothing, Make, Find, Roots, Collect}
use Rattle.node_rows.specs.declared.store.Pass.{Pass}
use Rattle.node_rows.specs.Told.{last_in, view_of}

-- the key of an entry that a pass tells
abbrev pub number_of : Last → ℕ
number_of Nothing = 0
number_of (Make number) = number
number_of (Find after) = after
number_of (Roots after) = after
number_of (Collect number) = number

-- where the keys rise, a log may tell them
abbrev pub HasKeys : List Entry → Type 0
HasKeys entries = KeysRise entries → HaveKeys entries

-- whether a log may tell a pass's last key: the greatest, where its keys rise
abbrev pub has_log_key : Pass → Bool
has_log_key p = nat_lt (number_of (last_in (view_of p).store.entries)) (2 ^ 62)

-- the log, or none where a pass has a last key that no log tells
abbrev pub told_log : {A : Type 0} → Option A → List Pass → Option A
told_log log passes = if list_all has_log_key passes then log else None
