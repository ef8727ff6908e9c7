-- What a command answers before anything is written: its output, or why it stops.
use Rattle.std.specs.Prelude.{◌≡◌, ◌⊎◌, ℕ, List, Option, Result, Ok, Err}
use Rattle.faults.specs.Count.{Rose}
use Rattle.ends.specs.Bytes.{GaveMoreThan}
use Rattle.rec_drill.specs.Drill.{drill_bytes}
use Rattle.settings.specs.declared.parts.Settings.{Settings}
use Rattle.term_commands.specs.Listing.{IsTooMuch, IsTextFault}
use Rattle.term_commands.specs.Unpacking.{IsFileFault}
use Rattle.rec_answers.specs.Written.{Output}
use Rattle.rec_answers.specs.Rewritten.{IsInputFault, RowsAreFew, NumbersMayEnd}
use Rattle.rec_answers.specs.Output.{IsFaultWithin, IsScheduleFault, LacksRows, LacksNumbers, too_long}
use Rattle.rec_answers.specs.Input.{ReadsSource}
use Rattle.rec_answers.specs.Run.{GaveFault, GaveTooMuch, GaveTooMany}
use Rattle.rec_answers.specs.Checked.{IsLogFault, IsTraceFault}
use Rattle.rec_answers.specs.Sequence.{IsSplit}
use Rattle.rec_answers.specs.declared.answers.Answer.{Answer}
use Rattle.read_faults.specs.declared.fail.ReadFail.{ReadFail}
use Rattle.read_faults.specs.declared.fail.ReadFail.TheVariants as fail
use Rattle.faults.specs.declared.refusal.Refusal.{Refusal}
use Rattle.rec_answers.specs.declared.specification.Conditions.{Conditions}
use Rattle.rec_answers.specs.declared.stops.Stop.{Stop}
use Rattle.rec_answers.specs.declared.stops.Stop.TheVariants.{Usage, Refused, StoreFull, ReadFault, WriteFault, Memory, Worn}

-- the answer is this output, and each term has one of so many workers
pub record IsAnswer (count : ℕ) (answer : Answer) (output : Output) : Type 0 where
  pub bytes : answer.output.items ≡ output.bytes
  pub values : answer.values ≡ output.values
  pub refuted : answer.refuted ≡ output.refuted
  pub workers : IsSplit count answer.workers output.terms

-- why reading the whole input, of at most so many bytes, may stop
abbrev pub StopsReading : {S : Type 0} (limit : ℕ) (left : S → Option (List ℕ)) (faults : S → ℕ)
    (old new : S) → Stop → Type 0
StopsReading limit left faults old new Usage = ⊥
StopsReading limit left faults old new (Refused fault) =
    (fault ≡ too_long limit) × GaveMoreThan (left old) (left new) limit
StopsReading limit left faults old new StoreFull = ⊥
StopsReading limit left faults old new ReadFault = Rose (faults old) (faults new)
StopsReading limit left faults old new WriteFault = ⊥
StopsReading limit left faults old new Memory = Unit {0}
StopsReading limit left faults old new Worn = ⊥

-- why making the output for an input may stop
abbrev pub StopsMaking : Settings → List ℕ → Stop → Type 0
StopsMaking settings input Usage = ⊥
StopsMaking settings input (Refused fault) = IsFaultWithin settings input fault
StopsMaking settings input StoreFull = LacksRows settings input
StopsMaking settings input ReadFault = ⊥
StopsMaking settings input WriteFault = ⊥
StopsMaking settings input Memory = Unit {0}
StopsMaking settings input Worn = LacksNumbers settings input

-- why reading a specification may fail, and why a command stops then
abbrev pub FailsSpelling : Conditions → List ℕ → ReadFail → Type 0
FailsSpelling conditions input (fail.Refused kind offset) =
    IsInputFault conditions input (record { kind = kind; place = offset })
FailsSpelling conditions input fail.Memory = Unit {0}

abbrev pub StopsSpelling : Conditions → List ℕ → Stop → Type 0
StopsSpelling conditions input Usage = ⊥
StopsSpelling conditions input (Refused fault) = IsInputFault conditions input fault
StopsSpelling conditions input StoreFull = ⊥
StopsSpelling conditions input ReadFault = ⊥
StopsSpelling conditions input WriteFault = ⊥
StopsSpelling conditions input Memory = Unit {0}
StopsSpelling conditions input Worn = ⊥

-- why rewriting the terms of an input may stop
abbrev pub StopsRewriting : Conditions → Settings → List ℕ → Stop → Type 0
StopsRewriting conditions settings input Usage = ⊥
StopsRewriting conditions settings input (Refused fault) = IsInputFault conditions input fault
StopsRewriting conditions settings input StoreFull = RowsAreFew settings input
StopsRewriting conditions settings input ReadFault = ⊥
StopsRewriting conditions settings input WriteFault = ⊥
StopsRewriting conditions settings input Memory = Unit {0}
StopsRewriting conditions settings input Worn = NumbersMayEnd settings input

-- why a drill may stop
abbrev pub StopsDrilling : Settings → Stop → Type 0
StopsDrilling settings Usage = ⊥
StopsDrilling settings (Refused fault) = ⊥
StopsDrilling settings StoreFull = RowsAreFew settings (drill_bytes settings.count)
StopsDrilling settings ReadFault = ⊥
StopsDrilling settings WriteFault = ⊥
StopsDrilling settings Memory = Unit {0}
StopsDrilling settings Worn = NumbersMayEnd settings (drill_bytes settings.count)

-- why running a schedule may stop
abbrev pub StopsScheduling : ℕ → List ℕ → Stop → Type 0
StopsScheduling seats input Usage = ⊥
StopsScheduling seats input (Refused fault) = IsScheduleFault seats input fault
StopsScheduling seats input StoreFull = ⊥
StopsScheduling seats input ReadFault = ⊥
StopsScheduling seats input WriteFault = ⊥
StopsScheduling seats input Memory = Unit {0}
StopsScheduling seats input Worn = ⊥

-- why a command on the terms of a text may stop
abbrev pub StopsTelling : ℕ → List ℕ → Stop → Type 0
StopsTelling rows input Usage = ⊥
StopsTelling rows input (Refused fault) = IsTextFault input fault
StopsTelling rows input StoreFull = IsTooMuch rows input
StopsTelling rows input ReadFault = ⊥
StopsTelling rows input WriteFault = ⊥
StopsTelling rows input Memory = Unit {0}
StopsTelling rows input Worn = ⊥

-- why reading a file of terms may stop
abbrev pub StopsUnpacking : List ℕ → Stop → Type 0
StopsUnpacking input Usage = ⊥
StopsUnpacking input (Refused fault) = IsFileFault input fault
StopsUnpacking input StoreFull = ⊥
StopsUnpacking input ReadFault = ⊥
StopsUnpacking input WriteFault = ⊥
StopsUnpacking input Memory = Unit {0}
StopsUnpacking input Worn = ⊥

-- why checking a log may stop
abbrev pub StopsChecking : List ℕ → Stop → Type 0
StopsChecking input Usage = ⊥
StopsChecking input (Refused fault) = IsLogFault input fault
StopsChecking input StoreFull = ⊥
StopsChecking input ReadFault = ⊥
StopsChecking input WriteFault = ⊥
StopsChecking input Memory = Unit {0}
StopsChecking input Worn = ⊥

-- why checking an output with traces may stop
abbrev pub StopsTracing : List ℕ → Stop → Type 0
StopsTracing input Usage = ⊥
StopsTracing input (Refused fault) = IsTraceFault input fault
StopsTracing input StoreFull = ⊥
StopsTracing input ReadFault = ⊥
StopsTracing input WriteFault = ⊥
StopsTracing input Memory = Unit {0}
StopsTracing input Worn = ⊥

-- why a command may stop before it writes
abbrev pub StopsAnswering : {S : Type 0} (settings : Settings) (left : S → Option (List ℕ))
    (faults : S → ℕ) (old new : S) → Stop → Type 0
StopsAnswering settings left faults old new Usage = ⊥
StopsAnswering settings left faults old new (Refused fault) = GaveFault settings left old new fault
StopsAnswering settings left faults old new StoreFull = GaveTooMuch settings left old new
StopsAnswering settings left faults old new ReadFault =
    ReadsSource settings.command × Rose (faults old) (faults new)
StopsAnswering settings left faults old new WriteFault = ⊥
StopsAnswering settings left faults old new Memory = Unit {0}
StopsAnswering settings left faults old new Worn = GaveTooMany settings left old new

-- the answer is as said, memory aside
abbrev pub Answers : {A : Type 0} → Result A Stop → (A → Type 0) → Type 0
Answers (Ok answer) P = P answer
Answers (Err stop) P = stop ≡ Memory

-- it stops with this fault, memory aside
abbrev pub StopsWith : {A : Type 0} → Result A Stop → Refusal → Type 0
StopsWith (Ok answer) fault = ⊥
StopsWith (Err stop) fault = (stop ≡ Refused fault) ⊎ (stop ≡ Memory)
