-- What a command writes for an input, and why it refuses one. Each command has a case of its own.
-- The input of a drill is its own text, which is never refused.
use Rattle.std.specs.Prelude.{◌≡◌, ◌⊎◌, ℕ, ◌≤◌, ◌<◌, List, length, true, false, Ok, Err}
use Rattle.lock_core.specs.Lock.{Lock, at_start}
use Rattle.lock_core.specs.Schedule.{ComesTo, lines}
use Rattle.lock_core.specs.StateText.{state_text}
use Rattle.lock_core.specs.declared.reading.LineFault.{LineFault}
use Rattle.settings.specs.declared.parts.Command.{Command}
use Rattle.settings.specs.declared.parts.Command.TheVariants.{Rewrite, Drill, Schedule, Terms, Pack, Unpack, CheckLog, CheckTrace, Outermost}
use Rattle.settings.specs.declared.parts.Settings.{Settings}
use Rattle.term_commands.specs.Listing.{IsListed, IsTooMuch, IsTextFault}
use Rattle.term_commands.specs.Packing.{IsPacked}
use Rattle.term_commands.specs.Unpacking.{IsUnpacked, IsFileFault}
use Rattle.rec_answers.specs.Written.{Output}
use Rattle.rec_answers.specs.Rewritten.{IsRewritten, IsSpecificationFault, IsInputFault, MeetsConditions, conditions_of, HasNoConditions, IsConditionFault, RowsAreFew, RowsSuffice, NumbersMayEnd, NumbersSuffice}
use Rattle.rec_answers.specs.Drilled.{IsDrilled}
use Rattle.rec_answers.specs.Checked.{IsLogChecked, IsLogFault, IsGoodLog, IsBadLog, IsTraceChecked, IsTraceFault, IsDerived, IsUnderived}
use Rattle.faults.specs.declared.refusal.Refusal.{Refusal}

-- how many bytes the input of a command may have
abbrev pub limit_of : Command → ℕ
limit_of Rewrite = 16777216
limit_of Drill = 16777216
limit_of Schedule = 16777216
limit_of Terms = 16777216
limit_of Pack = 16777216
limit_of Unpack = 134217728
limit_of CheckLog = 134217728
limit_of CheckTrace = 134217728
limit_of Outermost = 16777216

-- the input spells terms with no more different subtrees than there are rows, and this is told of
-- them
pub record IsTold (rows : ℕ) (input : List ℕ) (output : Output) : Type 0 where
  pub listed : IsListed rows input output.bytes
  pub values : output.values ≡ true
  pub refuted : output.refuted ≡ false
  pub terms : output.terms ≡ 0

-- it spells such terms, and this is their one file
pub record IsFiled (rows : ℕ) (input : List ℕ) (output : Output) : Type 0 where
  pub packed : IsPacked rows input output.bytes
  pub values : output.values ≡ true
  pub refuted : output.refuted ≡ false
  pub terms : output.terms ≡ 0

-- the input is a file of terms, and these are their lines; a term that is too large has no line of
-- its own
pub record IsUnfiled (input : List ℕ) (output : Output) : Type 0 where
  pub unpacked : IsUnpacked input output.bytes output.values
  pub refuted : output.refuted ≡ false
  pub terms : output.terms ≡ 0

abbrev pub schedule_output : Lock → Output
schedule_output lock = record { bytes = state_text lock; values = true; refuted = false; terms = 0 }

-- the lines of the input are a schedule, and this is the lock that it comes to
pub record IsScheduled (seats : ℕ) (input : List ℕ) (output : Output) : Type 0 where
  pub lock : Lock
  pub comes : ComesTo seats (at_start seats) 1 (lines input) (Ok lock)
  pub output_is : output ≡ schedule_output lock

-- a line of the input is no line of a schedule, or its step is out of place
pub record IsScheduleFault (seats : ℕ) (input : List ℕ) (fault : Refusal) : Type 0 where
  pub at : LineFault
  pub comes : ComesTo seats (at_start seats) 1 (lines input) (Err at)
  pub fault_is : fault ≡ record { kind = at.kind; place = at.line }

abbrev pub IsOutputOf : Command → Settings → List ℕ → Output → Type 0
IsOutputOf Rewrite s input output =
    IsRewritten s input output × MeetsConditions (conditions_of s) input
IsOutputOf Drill s input output = IsDrilled s input output
IsOutputOf Schedule s input output = IsScheduled s.seats input output
IsOutputOf Terms s input output = IsTold s.rows input output
IsOutputOf Pack s input output = IsFiled s.rows input output
IsOutputOf Unpack s input output = IsUnfiled input output
IsOutputOf CheckLog s input output = IsLogChecked input output
IsOutputOf CheckTrace s input output = IsTraceChecked input output
IsOutputOf Outermost s input output = IsRewritten s input output × HasNoConditions input

-- the input is accepted under the settings, and this is what is written for it
pub record IsOutput (s : Settings) (input : List ℕ) (output : Output) : Type 0 where
  pub within : length input ≤ limit_of s.command
  pub output_is : IsOutputOf s.command s input output

abbrev pub IsFaultOf : Command → Settings → List ℕ → Refusal → Type 0
IsFaultOf Rewrite s input fault = IsInputFault (conditions_of s) input fault
IsFaultOf Drill s input fault = ⊥
IsFaultOf Schedule s input fault = IsScheduleFault s.seats input fault
IsFaultOf Terms s input fault = IsTextFault input fault
IsFaultOf Pack s input fault = IsTextFault input fault
IsFaultOf Unpack s input fault = IsFileFault input fault
IsFaultOf CheckLog s input fault = IsLogFault input fault
IsFaultOf CheckTrace s input fault = IsTraceFault input fault
IsFaultOf Outermost s input fault = IsSpecificationFault input fault ⊎ IsConditionFault input fault

-- what the input is, where it is upheld by a check, and where it is refuted
abbrev pub IsUpheldBy : Command → List ℕ → Type 0
IsUpheldBy Rewrite input = Unit {0}
IsUpheldBy Drill input = Unit {0}
IsUpheldBy Schedule input = Unit {0}
IsUpheldBy Terms input = Unit {0}
IsUpheldBy Pack input = Unit {0}
IsUpheldBy Unpack input = Unit {0}
IsUpheldBy CheckLog input = IsGoodLog input
IsUpheldBy CheckTrace input = IsDerived input
IsUpheldBy Outermost input = Unit {0}

abbrev pub IsRefutedBy : Command → List ℕ → Type 0
IsRefutedBy Rewrite input = ⊥
IsRefutedBy Drill input = ⊥
IsRefutedBy Schedule input = ⊥
IsRefutedBy Terms input = ⊥
IsRefutedBy Pack input = ⊥
IsRefutedBy Unpack input = ⊥
IsRefutedBy CheckLog input = IsBadLog input
IsRefutedBy CheckTrace input = IsUnderived input
IsRefutedBy Outermost input = ⊥

-- the fault of an input that has more bytes than this limit
abbrev pub too_long : ℕ → Refusal
too_long limit = record { kind = 14; place = limit }

-- the input is too long, and this is its fault
abbrev pub IsTooLongAt : ℕ → List ℕ → Refusal → Type 0
IsTooLongAt limit input fault = (limit < length input) × (fault ≡ too_long limit)

-- the input isn't too long, and this is the command's fault of it
pub record IsFaultWithin (s : Settings) (input : List ℕ) (fault : Refusal) : Type 0 where
  pub within : length input ≤ limit_of s.command
  pub fault_is : IsFaultOf s.command s input fault

-- the input is refused under the settings, and this is its fault
abbrev pub IsFault : Settings → List ℕ → Refusal → Type 0
IsFault s input fault = IsTooLongAt (limit_of s.command) input fault ⊎ IsFaultWithin s input fault

-- the rows are too few for what the command builds of the input
abbrev pub LacksRowsFor : Command → Settings → List ℕ → Type 0
LacksRowsFor Rewrite s input = RowsAreFew s input
LacksRowsFor Drill s input = RowsAreFew s input
LacksRowsFor Schedule s input = ⊥
LacksRowsFor Terms s input = IsTooMuch s.rows input
LacksRowsFor Pack s input = IsTooMuch s.rows input
LacksRowsFor Unpack s input = ⊥
LacksRowsFor CheckLog s input = ⊥
LacksRowsFor CheckTrace s input = ⊥
LacksRowsFor Outermost s input = RowsAreFew s input

abbrev pub LacksRows : Settings → List ℕ → Type 0
LacksRows s input = LacksRowsFor s.command s input

-- The rows suffice for what the command builds of the input. Where they don't, terms that are told
-- or packed have no output.
abbrev pub HasRowsFor : Command → Settings → List ℕ → Type 0
HasRowsFor Rewrite s input = RowsSuffice s input
HasRowsFor Drill s input = RowsSuffice s input
HasRowsFor Schedule s input = Unit {0}
HasRowsFor Terms s input = Unit {0}
HasRowsFor Pack s input = Unit {0}
HasRowsFor Unpack s input = Unit {0}
HasRowsFor CheckLog s input = Unit {0}
HasRowsFor CheckTrace s input = Unit {0}
HasRowsFor Outermost s input = RowsSuffice s input

abbrev pub HasRows : Settings → List ℕ → Type 0
HasRows s input = HasRowsFor s.command s input

-- the numbers of the store may end where the command rewrites the terms of the input
abbrev pub LacksNumbersFor : Command → Settings → List ℕ → Type 0
LacksNumbersFor Rewrite s input = NumbersMayEnd s input
LacksNumbersFor Drill s input = NumbersMayEnd s input
LacksNumbersFor Schedule s input = ⊥
LacksNumbersFor Terms s input = ⊥
LacksNumbersFor Pack s input = ⊥
LacksNumbersFor Unpack s input = ⊥
LacksNumbersFor CheckLog s input = ⊥
LacksNumbersFor CheckTrace s input = ⊥
LacksNumbersFor Outermost s input = NumbersMayEnd s input

abbrev pub LacksNumbers : Settings → List ℕ → Type 0
LacksNumbers s input = LacksNumbersFor s.command s input

-- they suffice for it
abbrev pub HasNumbersFor : Command → Settings → List ℕ → Type 0
HasNumbersFor Rewrite s input = NumbersSuffice s input
HasNumbersFor Drill s input = NumbersSuffice s input
HasNumbersFor Schedule s input = Unit {0}
HasNumbersFor Terms s input = Unit {0}
HasNumbersFor Pack s input = Unit {0}
HasNumbersFor Unpack s input = Unit {0}
HasNumbersFor CheckLog s input = Unit {0}
HasNumbersFor CheckTrace s input = Unit {0}
HasNumbersFor Outermost s input = NumbersSuffice s input

abbrev pub HasNumbers : Settings → List ℕ → Type 0
HasNumbers s input = HasNumbersFor s.command s input
