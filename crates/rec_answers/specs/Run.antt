-- How a run ends. What a source has left, what a sink has taken and their counts of faults are read
-- of them by functions; left and taken bytes are known only where the source and the sink tell
-- them.
use Rattle.std.specs.Prelude.{◌≡◌, ◌≢◌, ◌⊎◌, ℕ, List, Option, Some}
use Rattle.std.specs.Io.KnownBytes.{Consumes, Appends, IsAtEnd}
use Rattle.faults.specs.Count.{Rose}
use Rattle.settings.specs.Words.{settings_of}
use Rattle.settings.specs.declared.parts.Settings.{Settings}
use Rattle.settings.specs.declared.parts.Command.{Command}
use Rattle.settings.specs.declared.parts.Command.TheVariants.{Rewrite, Drill, Schedule, Terms, Pack, Unpack, CheckLog, CheckTrace, Outermost}
use Rattle.rec_answers.specs.Written.{Output, status_of}
use Rattle.rec_answers.specs.Sequence.{IsSplit}
use Rattle.rec_answers.specs.Input.{ReadsSource, GaveInput, HasInput}
use Rattle.rec_answers.specs.Output.{IsOutput, IsFault, IsUpheldBy, IsRefutedBy, LacksRows, HasRows, LacksNumbers, HasNumbers, limit_of, too_long}
use Rattle.faults.specs.declared.refusal.Refusal.{Refusal}

-- the count of faults didn't rise
abbrev pub HasNoFault : {S : Type 0} (faults : S → ℕ) (old new : S) → Type 0
HasNoFault faults old new = Rose (faults old) (faults new) → ⊥

-- the source gave the input whole, and this is the output for it
pub record GaveOutput {S : Type 0} (settings : Settings) (left : S → Option (List ℕ)) (old new : S)
    (output : Output) : Type 0 where
  pub input : List ℕ
  pub read : GaveInput settings left old new input
  pub output_is : IsOutput settings input output

-- The command reads the source, and what the source gave has this fault. It was read to its end,
-- but for an input that is too long.
pub record GaveFault {S : Type 0} (settings : Settings) (left : S → Option (List ℕ)) (old new : S)
    (fault : Refusal) : Type 0 where
  pub reads : ReadsSource settings.command
  pub input : List ℕ
  pub given : Consumes (left old) (left new) input
  pub read : fault ≢ too_long (limit_of settings.command) → IsAtEnd (left new)
  pub fault_is : IsFault settings input fault

-- the source gave the input whole, and the rows are too few for it
pub record GaveTooMuch {S : Type 0} (settings : Settings) (left : S → Option (List ℕ))
    (old new : S) : Type 0 where
  pub input : List ℕ
  pub read : GaveInput settings left old new input
  pub lacks : LacksRows settings input

-- the source gave the input whole, and the numbers of the store may end with it
pub record GaveTooMany {S : Type 0} (settings : Settings) (left : S → Option (List ℕ))
    (old new : S) : Type 0 where
  pub input : List ℕ
  pub read : GaveInput settings left old new input
  pub lacks : LacksNumbers settings input

-- the words are accepted, and this is the output for the input
abbrev pub HasOutput : {S : Type 0} (words : List (List ℕ)) (left : S → Option (List ℕ))
    (old new : S) (output : Output) → Type 0
HasOutput words left old new output =
    (settings : Settings) × (settings_of words ≡ Some settings)
    × GaveOutput settings left old new output

-- the words are accepted, and what the source gave has this fault
abbrev pub HasFault : {S : Type 0} (words : List (List ℕ)) (left : S → Option (List ℕ))
    (old new : S) (fault : Refusal) → Type 0
HasFault words left old new fault =
    (settings : Settings) × (settings_of words ≡ Some settings)
    × GaveFault settings left old new fault

-- the words are accepted, and the rows are too few for the input
abbrev pub HasTooMuch : {S : Type 0} (words : List (List ℕ)) (left : S → Option (List ℕ))
    (old new : S) → Type 0
HasTooMuch words left old new =
    (settings : Settings) × (settings_of words ≡ Some settings) × GaveTooMuch settings left old new

-- the words are accepted, and the numbers of the store may end with the input
abbrev pub HasTooMany : {S : Type 0} (words : List (List ℕ)) (left : S → Option (List ℕ))
    (old new : S) → Type 0
HasTooMany words left old new =
    (settings : Settings) × (settings_of words ≡ Some settings) × GaveTooMany settings left old new

-- The words are accepted, there is an input whose output this is, and rows and numbers suffice for
-- it.
pub record Accepts {S : Type 0} (words : List (List ℕ)) (left : S → Option (List ℕ)) (source : S)
    (output : Output) : Type 0 where
  pub settings : Settings
  pub input : List ℕ
  pub accepted : settings_of words ≡ Some settings
  pub has : HasInput settings left source input
  pub output_is : IsOutput settings input output
  pub rows : HasRows settings input
  pub numbers : HasNumbers settings input

-- the words are accepted, the command reads the source, and the source has an input left that has
-- this fault
pub record Refuses {S : Type 0} (words : List (List ℕ)) (left : S → Option (List ℕ)) (source : S)
    (fault : Refusal) : Type 0 where
  pub settings : Settings
  pub input : List ℕ
  pub accepted : settings_of words ≡ Some settings
  pub reads : ReadsSource settings.command
  pub has : left source ≡ Some input
  pub fault_is : IsFault settings input fault

-- the whole output was written, which the status tells
pub record IsWritten {O : Type 0} (taken : O → Option (List ℕ)) (old new : O) (output : Output)
    (status : ℕ) : Type 0 where
  pub bytes : Appends (taken old) (taken new) output.bytes
  pub status_is : status ≡ status_of output

-- the words are accepted, the source gave the input whole, and this holds of it by the command
abbrev pub HasGiven : {S : Type 0} (words : List (List ℕ)) (left : S → Option (List ℕ))
    (old new : S) → (Command → List ℕ → Type 0) → Type 0
HasGiven words left old new P =
    (settings : Settings) × (settings_of words ≡ Some settings)
    × ((input : List ℕ) × GaveInput settings left old new input × P settings.command input)

-- where the words ask for a check, the input is right
abbrev pub IsUpheld : {S : Type 0} (words : List (List ℕ)) (left : S → Option (List ℕ))
    (old new : S) → Type 0
IsUpheld words left old new = HasGiven words left old new IsUpheldBy

-- the words ask for a check, and the input isn't right
abbrev pub IsRefuted : {S : Type 0} (words : List (List ℕ)) (left : S → Option (List ℕ))
    (old new : S) → Type 0
IsRefuted words left old new = HasGiven words left old new IsRefutedBy

-- each term of the output has one of the workers that the words ask for
abbrev pub HasWorkers : (words : List (List ℕ)) → List ℕ → Output → Type 0
HasWorkers words workers output =
    (settings : Settings) × (settings_of words ≡ Some settings)
    × IsSplit settings.workers workers output.terms

-- the words ask for a drill
abbrev pub AsksDrill : List (List ℕ) → Type 0
AsksDrill words =
    (settings : Settings) × (settings_of words ≡ Some settings) × (settings.command ≡ Drill)

-- the command rewrites terms
abbrev pub Rewrites : Command → Type 0
Rewrites Rewrite = Unit {0}
Rewrites Drill = Unit {0}
Rewrites Schedule = ⊥
Rewrites Terms = ⊥
Rewrites Pack = ⊥
Rewrites Unpack = ⊥
Rewrites CheckLog = ⊥
Rewrites CheckTrace = ⊥
Rewrites Outermost = Unit {0}

-- the words ask for such a command
abbrev pub AsksRewriting : List (List ℕ) → Type 0
AsksRewriting words =
    (settings : Settings) × (settings_of words ≡ Some settings) × Rewrites settings.command

-- the output was made: it was written, or a write failed
abbrev pub IsMade : ℕ → Type 0
IsMade status = (status ≡ 0) ⊎ (status ≡ 1) ⊎ (status ≡ 6) ⊎ (status ≡ 9)

-- it was written whole
abbrev pub IsWhole : ℕ → Type 0
IsWhole status = (status ≡ 0) ⊎ (status ≡ 1) ⊎ (status ≡ 9)

-- a status that a run ends with
abbrev pub IsStatus : ℕ → Type 0
IsStatus status =
    (status ≡ 0) ⊎ (status ≡ 1) ⊎ (status ≡ 2) ⊎ (status ≡ 3) ⊎ (status ≡ 4) ⊎ (status ≡ 5)
    ⊎ (status ≡ 6) ⊎ (status ≡ 7)
    ⊎ (status ≡ 8) ⊎ (status ≡ 9)
