-- The input of a command: what the source had left, or the text of a drill's number, for which
-- nothing is read.
use Rattle.std.specs.Prelude.{◌≡◌, ℕ, List, Option, Some}
use Rattle.ends.specs.Bytes.{GaveAll}
use Rattle.rec_drill.specs.Drill.{drill_bytes}
use Rattle.settings.specs.declared.parts.Command.{Command}
use Rattle.settings.specs.declared.parts.Command.TheVariants.{Rewrite, Drill, Schedule, Terms, Pack, Unpack, CheckLog, CheckTrace, Outermost}
use Rattle.settings.specs.declared.parts.Settings.{Settings}

-- the command reads the source
abbrev pub ReadsSource : Command → Type 0
ReadsSource Rewrite = Unit {0}
ReadsSource Drill = ⊥
ReadsSource Schedule = Unit {0}
ReadsSource Terms = Unit {0}
ReadsSource Pack = Unit {0}
ReadsSource Unpack = Unit {0}
ReadsSource CheckLog = Unit {0}
ReadsSource CheckTrace = Unit {0}
ReadsSource Outermost = Unit {0}

-- the source was read to its end, and gave this input; for a drill, the input is its text, and the
-- source is as before
abbrev pub GaveInputTo : {S : Type 0} → Command
    → (count : ℕ) (left : S → Option (List ℕ)) (old new : S) → List ℕ → Type 0
GaveInputTo Rewrite count left old new input = GaveAll (left old) (left new) input
GaveInputTo Drill count left old new input = (new ≡ old) × (input ≡ drill_bytes count)
GaveInputTo Schedule count left old new input = GaveAll (left old) (left new) input
GaveInputTo Terms count left old new input = GaveAll (left old) (left new) input
GaveInputTo Pack count left old new input = GaveAll (left old) (left new) input
GaveInputTo Unpack count left old new input = GaveAll (left old) (left new) input
GaveInputTo CheckLog count left old new input = GaveAll (left old) (left new) input
GaveInputTo CheckTrace count left old new input = GaveAll (left old) (left new) input
GaveInputTo Outermost count left old new input = GaveAll (left old) (left new) input

abbrev pub GaveInput : {S : Type 0} (s : Settings) (left : S → Option (List ℕ)) (old new : S)
    → List ℕ → Type 0
GaveInput s left old new input = GaveInputTo s.command s.count left old new input

-- the source has this input left; for a drill, the input is its text
abbrev pub HasInputFor : {S : Type 0} → Command
    → (count : ℕ) (left : S → Option (List ℕ)) (source : S) → List ℕ → Type 0
HasInputFor Rewrite count left source input = left source ≡ Some input
HasInputFor Drill count left source input = input ≡ drill_bytes count
HasInputFor Schedule count left source input = left source ≡ Some input
HasInputFor Terms count left source input = left source ≡ Some input
HasInputFor Pack count left source input = left source ≡ Some input
HasInputFor Unpack count left source input = left source ≡ Some input
HasInputFor CheckLog count left source input = left source ≡ Some input
HasInputFor CheckTrace count left source input = left source ≡ Some input
HasInputFor Outermost count left source input = left source ≡ Some input

abbrev pub HasInput : {S : Type 0} (s : Settings) (left : S → Option (List ℕ)) (source : S)
    → List ℕ → Type 0
HasInput s left source input = HasInputFor s.command s.count left source input
