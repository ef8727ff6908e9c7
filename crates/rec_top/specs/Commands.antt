-- What the functions between `run` and the shared store answer, all clauses of each as one record.
use Rattle.std.specs.Prelude.{◌≡◌, ◌⊎◌, ◌≤◌, ℕ, List, Option, Some, Result, IfOk, IfErr, IfSome, OnOk, IsErrOf, map}
use Rattle.std.specs.List.{AllByRecursion}
use Rattle.faults.specs.declared.refusal.Refusal.{Refusal}
use Rattle.history_core.specs.declared.entry.Entry.{Entry}
use Rattle.history_core.specs.Chronicle.{chronicle, IsLegal}
use Rattle.log_text.specs.Keys.{HaveKeys}
use Rattle.rec_check.specs.Spec.{specified}
use Rattle.rec_check.specs.Spelled.{Specified}
use Rattle.rec_check.specs.declared.spec.Spec.{Spec}
use Rattle.rec_drill.specs.Drill.{drill_bytes}
use Rattle.settings.specs.declared.parts.Command.TheVariants.{Drill}
use Rattle.settings.specs.declared.parts.Settings.{Settings}
use Rattle.worker_crew.specs.declared.lines.Lines.{Lines}
use Rattle.work_order.specs.Lined.{worker_of}
use Rattle.shared_work.specs.Sharing.{CollectsFew, EachRises}
use Rattle.rec_answers.specs.Written.{Output}
use Rattle.rec_answers.specs.Input.{ReadsSource, HasInput}
use Rattle.rec_answers.specs.Output.{IsOutput, IsFault, IsFaultWithin, HasRows, HasNumbers}
use Rattle.rec_answers.specs.Drilled.{IsDrilled}
use Rattle.rec_answers.specs.Rewritten.{IsRewritten, IsInputFault, MeetsConditions, RowsSuffice, NumbersSuffice, Spells}
use Rattle.rec_answers.specs.Sequence.{AreLinesOf, StopsTerms}
use Rattle.rec_answers.specs.Logged.{HaveLogKeys, log_asked, log_by, log_bytes}
use Rattle.rec_answers.specs.Run.{GaveOutput, HasNoFault}
use Rattle.rec_answers.specs.Answered.{IsAnswer, StopsRewriting, StopsDrilling, StopsMaking, StopsAnswering, Answers, StopsWith}
use Rattle.rec_answers.specs.declared.answers.Answer.{Answer}
use Rattle.rec_answers.specs.declared.specification.Conditions.{Conditions}
use Rattle.rec_answers.specs.declared.stops.Stop.{Stop}
use Rattle.rec_answers.specs.declared.stops.Stop.TheVariants.{ReadFault}
use Rattle.rec_top.specs.Logged.{MayHaveLog}
use Rattle.rec_top.specs.Histories.{CountsWorkers, GaveSuch, NamesAll, SpellsSuch, TellsHistory, TellsStop, TellsTerms}

-- the lines of the terms of a specification, or why there are none, the history of the workers, and
-- its log, where there is one
pub record WorksSpec (s : Settings) (spec : Spec) (r : Result Lines Stop)
    (lists : List (List Entry)) (text : Option (List ℕ)) : Type 0 where
  pub made : IfOk r (λ lines. AreLinesOf s (specified spec) lines)
  pub stopped : IfErr r (StopsTerms s spec.rules.items spec.terms.items)
  pub legal : IsLegal s.rows (chronicle lists)
  pub rises : EachRises lists
  pub collects : CollectsFew s lists
  pub each : CountsWorkers s r lists
  pub built : IfOk r (λ lines. NamesAll (map worker_of lines.list.items) lists s (specified spec))
  pub ended : IfErr r (TellsStop s (λ P. P (specified spec)) lists)
  pub log : MayHaveLog s lists text
  pub keys : IfSome text (λ bytes. AllByRecursion HaveKeys lists)

-- those of the terms of an input
pub record WorksInput (conditions : Conditions) (s : Settings) (input : List ℕ)
    (r : Result Lines Stop) (lists : List (List Entry)) (text : Option (List ℕ)) : Type 0 where
  pub made : IfOk r (λ lines. (spec : Specified) × Spells input spec × AreLinesOf s spec lines)
  pub meets : OnOk r (MeetsConditions conditions input)
  pub stopped : IfErr r (StopsRewriting conditions s input)
  pub accepted : (spec : Specified) → Spells input spec → MeetsConditions conditions input
      → RowsSuffice s input → NumbersSuffice s input
      → Answers r (λ lines. AreLinesOf s spec lines)
  pub refused : (fault : Refusal) → IsInputFault conditions input fault → StopsWith r fault
  pub legal : IsLegal s.rows (chronicle lists)
  pub rises : EachRises lists
  pub collects : CollectsFew s lists
  pub each : CountsWorkers s r lists
  pub built : IfOk r (λ lines. SpellsSuch input (NamesAll (map worker_of lines.list.items) lists s))
  pub ended : IfErr r (TellsStop s (SpellsSuch input) lists)
  pub log : MayHaveLog s lists text
  pub keys : IfSome text (λ bytes. AllByRecursion HaveKeys lists)

-- what `rewrite` and `outermost` answer for an input
pub record RewritesInput (conditions : Conditions) (s : Settings) (input : List ℕ)
    (r : Result Answer Stop) (lists : List (List Entry)) (text : Option (List ℕ)) : Type 0 where
  pub made : IfOk r (λ answer. (output : Output) × IsRewritten s input output
      × IsAnswer s.workers answer output)
  pub meets : OnOk r (MeetsConditions conditions input)
  pub stopped : IfErr r (StopsRewriting conditions s input)
  pub accepted : (output : Output) → IsRewritten s input output → MeetsConditions conditions input
      → RowsSuffice s input → NumbersSuffice s input
      → Answers r (λ answer. IsAnswer s.workers answer output)
  pub refused : (fault : Refusal) → IsInputFault conditions input fault → StopsWith r fault
  pub history : TellsTerms s (SpellsSuch input) r lists
  pub log : OnOk r (log_bytes text ≡ log_asked s lists)
  pub keys : OnOk r (HaveLogKeys s lists)

-- what `drill` answers
pub record Drills (s : Settings) (r : Result Answer Stop) (lists : List (List Entry))
    (text : Option (List ℕ)) : Type 0 where
  pub made : IfOk r (λ answer. (output : Output) × IsDrilled s (drill_bytes s.count) output
      × IsAnswer s.workers answer output)
  pub stopped : IfErr r (StopsDrilling s)
  pub accepted : (output : Output) → IsDrilled s (drill_bytes s.count) output
      → RowsSuffice s (drill_bytes s.count) → NumbersSuffice s (drill_bytes s.count)
      → Answers r (λ answer. IsAnswer s.workers answer output)
  pub history : TellsTerms s (SpellsSuch (drill_bytes s.count)) r lists
  pub log : OnOk r (log_bytes text ≡ log_asked s lists)
  pub keys : OnOk r (HaveLogKeys s lists)

-- what a command that reads the source answers for an input
pub record AnswersInput (s : Settings) (input : List ℕ) (r : Result Answer Stop)
    (lists : List (List Entry)) (text : Option (List ℕ)) : Type 0 where
  pub made : IfOk r
      (λ answer. (output : Output) × IsOutput s input output × IsAnswer s.workers answer output)
  pub stopped : IfErr r (StopsMaking s input)
  pub accepted : (output : Output) → IsOutput s input output → HasRows s input → HasNumbers s input
      → Answers r (λ answer. IsAnswer s.workers answer output)
  pub refused : (fault : Refusal) → IsFaultWithin s input fault → StopsWith r fault
  pub history : TellsHistory s (SpellsSuch input) r lists
  pub log : OnOk r (log_bytes text ≡ log_by s.command s lists)
  pub keys : OnOk r (HaveLogKeys s lists)

-- what a command answers for a source, before and after
pub record AnswersSource {S : Type 0} (s : Settings) (left : S → Option (List ℕ)) (faults : S → ℕ)
    (old new : S) (r : Result Answer Stop) (lists : List (List Entry))
    (text : Option (List ℕ)) : Type 0 where
  pub made : IfOk r (λ answer. (output : Output) × GaveOutput s left old new output
      × IsAnswer s.workers answer output)
  pub stopped : IfErr r (StopsAnswering s left faults old new)
  pub unfailed : IsErrOf r ReadFault ⊎ (faults new ≡ faults old)
  pub accepted : (input : List ℕ) (output : Output) → HasInput s left old input
      → IsOutput s input output
      → HasRows s input → HasNumbers s input → HasNoFault faults old new
      → Answers r (λ answer. IsAnswer s.workers answer output)
  pub refused : (input : List ℕ) (fault : Refusal) → ReadsSource s.command → left old ≡ Some input
      → IsFault s input fault → HasNoFault faults old new → StopsWith r fault
  pub unread : s.command ≡ Drill → new ≡ old
  pub history : TellsHistory s (GaveSuch s left old new) r lists
  pub log : OnOk r (log_bytes text ≡ log_by s.command s lists)
  pub keys : OnOk r (HaveLogKeys s lists)
  pub later : faults old ≤ faults new
