-- Which keys a log tells.
use Rattle.std.specs.Prelude.{◌^◌, ◌<◌, List}
use Rattle.std.specs.List.{AllByRecursion}
use Rattle.history_core.specs.declared.entry.Entry.{Entry}
use Rattle.history_core.specs.Entry.{key}

-- those below 2^62
abbrev pub HaveKeys : List Entry → Type 0
HaveKeys entries = AllByRecursion (λ e. key e < 2 ^ 62) entries
