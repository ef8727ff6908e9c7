-- Declared names in order.
use Rattle.std.specs.Prelude.{ℕ, List, ◌++◌, map}
use Rattle.rec_includes.specs.Material.{declared}
use Rattle.rec_offences.specs.Scope.{Entry}
use Rattle.rec_offences.specs.declared.signatures.Signature.{Signature}

-- declared names of these bytes
pub record Known : Type 0 where
  pub bytes : List ℕ
  pub entries : List Entry

abbrev pub known : List ℕ → List Entry → Known
known bytes entries = record { bytes = bytes; entries = entries }

-- these are declared after the others
abbrev pub with_entries : Known → List Entry → Known
with_entries scope own = known scope.bytes (scope.entries ++ own)

abbrev pub entry_of : Signature → Entry
entry_of s = record { declared = declared s.name s.arguments.now s.sort; is_variable = s.is_variable }

abbrev pub entries_of : List Signature → List Entry
entries_of signatures = map entry_of signatures
