-- Declared names as they are kept.
use Rattle.std.specs.Prelude.{◌≡◌}
use Rattle.rec_offences.specs.Scope.{names_of}
use Rattle.rec_offences.specs.Known.{Known, known, entries_of}
use Rattle.rec_offences.specs.declared.scope.Scope.TheInside.{Inside}

abbrev pub scope_shown : Inside → Known
scope_shown s = known s.names.bytes (entries_of s.signatures.items)

-- each has its name at its place
abbrev pub IsScopeKept : Inside → Type 0
IsScopeKept s = s.names.names ≡ names_of (entries_of s.signatures.items)
