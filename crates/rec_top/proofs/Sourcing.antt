-- What a command answers for its input, told of the source that gave it.
use Rattle.std.proofs.Common.{◌≡◌, ◌⊎◌, inl, inr, ℕ, ◌≤◌, List, [], Option, Some, None, length, refl, sym, ap, subst, ◌∙◌, arith}
use Rattle.std.specs.Prelude.{Result, Ok, Err, IfOk, IfErr, OnOk, IsErrOf}
use Rattle.faults.specs.declared.refusal.Refusal.{Refusal}
use Rattle.ends.specs.Bytes.{GaveAll}
use Rattle.history_core.specs.declared.entry.Entry.{Entry}
use Rattle.settings.specs.Words.{AreInRange}
use Rattle.settings.specs.declared.parts.Command.{Command}
use Rattle.settings.specs.declared.parts.Command.TheVariants.{Rewrite, Drill, Outermost}
use Rattle.settings.specs.declared.parts.Settings.{Settings}
use Rattle.rec_answers.specs.Written.{Output}
use Rattle.rec_answers.specs.Input.{ReadsSource, GaveInput}
use Rattle.rec_answers.specs.Output.{IsOutput, IsOutputOf, IsFault, IsFaultOf, IsFaultWithin, IsTooLongAt, LacksRowsFor, LacksNumbersFor, HasRows, HasRowsFor, HasNumbers, HasNumbersFor, limit_of}
use Rattle.rec_answers.specs.Rewritten.{IsRewritten, IsInputFault, MeetsConditions, RowsAreFew, RowsSuffice, NumbersMayEnd, NumbersSuffice, conditions_of}
use Rattle.rec_answers.specs.Logged.{log_asked, log_by, log_bytes}
use Rattle.rec_answers.specs.Run.{GaveOutput, HasNoFault, Rewrites}
use Rattle.rec_answers.specs.Answered.{IsAnswer, StopsReading, StopsRewriting, StopsMaking, StopsAnswering, Answers, StopsWith}
use Rattle.rec_answers.specs.declared.answers.Answer.{Answer}
use Rattle.rec_answers.specs.declared.specification.Conditions.{Conditions}
use Rattle.rec_answers.specs.declared.specification.Conditions.TheVariants as conditions
use Rattle.rec_answers.specs.declared.stops.Stop.{Stop}
use Rattle.rec_answers.specs.declared.stops.Stop.TheVariants.{Usage, Refused, StoreFull, ReadFault, WriteFault, Memory, Worn}
use Rattle.rec_answers.proofs.Inputs.{gave_input, has_left, drill_made, drill_stopped, as_drilled, drill_rows, drill_numbers}
use Rattle.rec_answers.proofs.Statuses.{fault_of, none_of}
use Rattle.rec_top.specs.Histories.{SpellsSuch, TellsFor, TellsTerms}
use Rattle.rec_top.specs.Commands.{RewritesInput, Drills, AnswersInput, AnswersSource}
use Rattle.rec_top.proofs.GoodLogs.{none_have_keys}
use Rattle.rec_top.proofs.Recounting.{given, drill_history, alone_tells, alone_logs, unread}

-- ---- the commands that rewrite
module _ (k : Command) (kind : Conditions) (s : Settings) (input : List ℕ) (limit : length input ≤ limit_of s.command) (is : s.command ≡ k) (a : Result Answer Stop) (lists : List (List Entry)) (text : Option (List ℕ)) (p : RewritesInput kind s input a lists text)
    (writes : (output : Output) → IsRewritten s input output × MeetsConditions kind input → IsOutputOf k s input output) (written : (output : Output) → IsOutputOf k s input output → IsRewritten s input output × MeetsConditions kind input)
    (faulty : (fault : Refusal) → IsInputFault kind input fault → IsFaultOf k s input fault) (faulted : (fault : Refusal) → IsFaultOf k s input fault → IsInputFault kind input fault)
    (few : RowsAreFew s input → LacksRowsFor k s input) (ends : NumbersMayEnd s input → LacksNumbersFor k s input) (rows_do : HasRowsFor k s input → RowsSuffice s input) (numbers_do : HasNumbersFor k s input → NumbersSuffice s input)
    (tells : TellsTerms s (SpellsSuch input) a lists → TellsFor k s (SpellsSuch input) a lists) (logs : log_asked s lists ≡ log_by k s lists) where
  outputs : (b : Result Answer Stop) → IfOk b (λ answer. (output : Output) × IsRewritten s input output × IsAnswer s.workers answer output) → OnOk b (MeetsConditions kind input)
      → IfOk b (λ answer. (output : Output) × IsOutput s input output × IsAnswer s.workers answer output)
  outputs (Ok answer) m meets = (m.0, record { within = limit; output_is = subst (λ c. IsOutputOf c s input m.0) (sym is) (writes m.0 (m.1, meets)) }, m.2)
  outputs (Err stop) m meets = tt

  stop_making : (stop : Stop) → StopsRewriting kind s input stop → StopsMaking s input stop
  stop_making Usage h = h
  stop_making (Refused fault) h = record { within = limit; fault_is = subst (λ c. IsFaultOf c s input fault) (sym is) (faulty fault h) }
  stop_making StoreFull h = subst (λ c. LacksRowsFor c s input) (sym is) (few h)
  stop_making ReadFault h = h
  stop_making WriteFault h = h
  stop_making Memory h = h
  stop_making Worn h = subst (λ c. LacksNumbersFor c s input) (sym is) (ends h)

  stops_making : (b : Result Answer Stop) → IfErr b (StopsRewriting kind s input) → IfErr b (StopsMaking s input)
  stops_making (Ok answer) h = tt
  stops_making (Err stop) h = stop_making stop h

  log_is : (b : Result Answer Stop) → OnOk b (log_bytes text ≡ log_asked s lists) → OnOk b (log_bytes text ≡ log_by s.command s lists)
  log_is (Ok answer) h = subst (λ c. log_bytes text ≡ log_by c s lists) (sym is) (h ∙ logs)
  log_is (Err stop) h = tt

  rewriting_answers : AnswersInput s input a lists text
  rewriting_answers = record {
    made = outputs a p.made p.meets;
    stopped = stops_making a p.stopped;
    accepted = λ output o rows numbers.
        let q = written output (subst (λ c. IsOutputOf c s input output) is o.output_is) in
        p.accepted output q.0 q.1 (rows_do (subst (λ c. HasRowsFor c s input) is rows)) (numbers_do (subst (λ c. HasNumbersFor c s input) is numbers));
    refused = λ fault f. p.refused fault (faulted fault (subst (λ c. IsFaultOf c s input fault) is f.fault_is));
    history = subst (λ c. TellsFor c s (SpellsSuch input) a lists) (sym is) (tells p.history);
    log = log_is a p.log;
    keys = p.keys;
  }

pub rewrite_answers : (kind : Conditions) (s : Settings) (input : List ℕ) (a : Result Answer Stop) (lists : List (List Entry)) (text : Option (List ℕ)) → kind ≡ conditions_of s → length input ≤ limit_of s.command → s.command ≡ Rewrite → RewritesInput kind s input a lists text
    → AnswersInput s input a lists text
rewrite_answers kind s input a lists text e limit is p =
    rewriting_answers Rewrite (conditions_of s) s input limit is a lists text (subst (λ k. RewritesInput k s input a lists text) e p)
    (λ output h. h) (λ output h. h) (λ fault h. h) (λ fault h. h) (λ h. h) (λ h. h) (λ h. h) (λ h. h) (λ h. h) refl

pub outermost_answers : (s : Settings) (input : List ℕ) (a : Result Answer Stop) (lists : List (List Entry)) (text : Option (List ℕ)) → length input ≤ limit_of s.command → s.command ≡ Outermost → RewritesInput conditions.Refused s input a lists text
    → AnswersInput s input a lists text
outermost_answers s input a lists text limit is p =
    rewriting_answers Outermost conditions.Refused s input limit is a lists text p
    (λ output h. h) (λ output h. h) (λ fault h. h) (λ fault h. h) (λ h. h) (λ h. h) (λ h. h) (λ h. h) (λ h. h) refl

-- ---- the others
pub alone_answers : (s : Settings) (input : List ℕ) (made a : Result Answer Stop) (lists : List (List Entry)) (text : Option (List ℕ)) → a ≡ made → lists ≡ [] → text ≡ None → (Rewrites s.command → ⊥)
    → IfOk made (λ answer. (output : Output) × IsOutput s input output × IsAnswer s.workers answer output) → IfErr made (StopsMaking s input)
    → ((output : Output) → IsOutput s input output → Answers made (λ answer. IsAnswer s.workers answer output)) → ((fault : Refusal) → IsFaultWithin s input fault → StopsWith made fault)
    → AnswersInput s input a lists text
alone_answers s input made a lists text e none unlogged alone m stopped accepted refused =
    subst (λ q. AnswersInput s input q lists text) (sym e) (record {
      made = m;
      stopped = stopped;
      accepted = λ output o rows numbers. accepted output o;
      refused = refused;
      history = alone_tells s.command s (SpellsSuch input) made lists alone none;
      log = alone_logs s.command s lists text made alone unlogged;
      keys = none_have_keys s lists made none;
    })

-- ---- the source
module _ {S : Type 0} (s : Settings) (left : S → Option (List ℕ)) (faults : S → ℕ) (old new : S) (reads : ReadsSource s.command) (later : faults old ≤ faults new) where
  module _ (input : List ℕ) (whole : GaveAll (left old) (left new) input) (same : faults new ≡ faults old) (is : (all : List ℕ) → left old ≡ Some all → length all ≤ limit_of s.command → HasNoFault faults old new → input ≡ all)
      (short : (all : List ℕ) (fault : Refusal) → left old ≡ Some all → IsTooLongAt (limit_of s.command) all fault → HasNoFault faults old new → ⊥) where
    gave : GaveInput s left old new input
    gave = gave_input s.command s.count left old new input reads whole

    outputs_given : (a : Result Answer Stop) → IfOk a (λ answer. (output : Output) × IsOutput s input output × IsAnswer s.workers answer output)
        → IfOk a (λ answer. (output : Output) × GaveOutput s left old new output × IsAnswer s.workers answer output)
    outputs_given (Ok answer) m = (m.0, record { input = input; read = gave; output_is = m.1 }, m.2)
    outputs_given (Err stop) m = tt

    stop_given : (stop : Stop) → StopsMaking s input stop → StopsAnswering s left faults old new stop
    stop_given Usage h = h
    stop_given (Refused fault) h = record { reads = reads; input = input; given = whole.bytes; read = λ other. whole.end; fault_is = inr h }
    stop_given StoreFull h = record { input = input; read = gave; lacks = h }
    stop_given ReadFault h = absurd h
    stop_given WriteFault h = h
    stop_given Memory h = h
    stop_given Worn h = record { input = input; read = gave; lacks = h }

    stops_given : (a : Result Answer Stop) → IfErr a (StopsMaking s input) → IfErr a (StopsAnswering s left faults old new)
    stops_given (Ok answer) h = tt
    stops_given (Err stop) h = stop_given stop h

    fault_given : (a : Result Answer Stop) → ((fault : Refusal) → IsFaultWithin s input fault → StopsWith a fault) → (all : List ℕ) (fault : Refusal) → left old ≡ Some all → IsFault s all fault → HasNoFault faults old new → StopsWith a fault
    fault_given a refused all fault has (inl long) quiet = absurd (short all fault has long quiet)
    fault_given a refused all fault has (inr f) quiet = refused fault (subst (λ i. IsFaultWithin s i fault) (sym (is all has f.within quiet)) f)

    source_answers : (a : Result Answer Stop) (lists : List (List Entry)) (text : Option (List ℕ)) → AnswersInput s input a lists text → AnswersSource s left faults old new a lists text
    source_answers a lists text p = record {
      made = outputs_given a p.made;
      stopped = stops_given a p.stopped;
      unfailed = inr same;
      accepted = λ all output has o rows numbers quiet.
          let one = sym (is all (has_left s.command s.count left old all reads has) o.within quiet) in
          p.accepted output (subst (λ i. IsOutput s i output) one o) (subst (HasRows s) one rows) (subst (HasNumbers s) one numbers);
      refused = λ all fault reading has f quiet. fault_given a p.refused all fault has f quiet;
      unread = λ e. absurd (subst ReadsSource e reads);
      history = given s left old new input a lists gave p.history;
      log = p.log;
      keys = p.keys;
      later = later;
    }

  -- the source gave all that it had left
  pub read_answers : {A : Type 0} (limit : ℕ) (r : Result A Stop) (v : A) (items : A → List ℕ) (input : List ℕ) → limit ≡ limit_of s.command → r ≡ Ok v → input ≡ items v
      → GaveAll (left old) (left new) (items v) → IsErrOf r ReadFault ⊎ (faults new ≡ faults old)
      → ((all : List ℕ) → left old ≡ Some all → length all ≤ limit → HasNoFault faults old new → items v ≡ all)
      → ((all : List ℕ) (fault : Refusal) → left old ≡ Some all → IsTooLongAt limit all fault → HasNoFault faults old new → ⊥)
      → (a : Result Answer Stop) (lists : List (List Entry)) (text : Option (List ℕ)) → AnswersInput s input a lists text → AnswersSource s left faults old new a lists text
  read_answers limit r v items input e ok same whole unfailed is short a lists text p =
      source_answers (items v) whole (none_of r v ok unfailed) (λ all has within quiet. is all has (subst (λ n. length all ≤ n) (sym e) within) quiet)
      (λ all fault has long quiet. short all fault has (subst (λ n. IsTooLongAt n all fault) (sym e) long) quiet) a lists text (subst (λ i. AnswersInput s i a lists text) same p)

  -- reading it stopped
  reading_stops : (limit : ℕ) → limit ≡ limit_of s.command → (stop : Stop) → StopsReading limit left faults old new stop → StopsAnswering s left faults old new stop
  reading_stops limit e Usage h = h
  reading_stops limit e (Refused fault) h =
      let long : IsTooLongAt (limit_of s.command) h.1.0 fault = subst (λ n. IsTooLongAt n h.1.0 fault) e (h.1.2, h.0) in
      record { reads = reads; input = h.1.0; given = h.1.1; read = λ other. absurd (other long.1); fault_is = inl long }
  reading_stops limit e StoreFull h = absurd h
  reading_stops limit e ReadFault h = (reads, h)
  reading_stops limit e WriteFault h = h
  reading_stops limit e Memory h = h
  reading_stops limit e Worn h = absurd h

  unread_fault : (limit : ℕ) → limit ≡ limit_of s.command → (stop : Stop)
      → ((all : List ℕ) → left old ≡ Some all → length all ≤ limit → HasNoFault faults old new → stop ≡ Memory)
      → ((all : List ℕ) (fault : Refusal) → left old ≡ Some all → IsTooLongAt limit all fault → HasNoFault faults old new → (stop ≡ Refused fault) ⊎ (stop ≡ Memory))
      → (all : List ℕ) (fault : Refusal) → left old ≡ Some all → IsFault s all fault → HasNoFault faults old new → (stop ≡ Refused fault) ⊎ (stop ≡ Memory)
  unread_fault limit e stop wants long all fault has (inl f) quiet = long all fault has (subst (λ n. IsTooLongAt n all fault) (sym e) f) quiet
  unread_fault limit e stop wants long all fault has (inr f) quiet = inr (wants all has (subst (λ n. length all ≤ n) (sym e) f.within) quiet)

  stop_unread : {P : Type 0} (stop : Stop) → (stop ≡ ReadFault) ⊎ P → (a : Result Answer Stop) → a ≡ Err stop → IsErrOf a ReadFault ⊎ P
  stop_unread stop (inl e) a is = inl (is ∙ ap Err e)
  stop_unread stop (inr p) a is = inr p

  pub unread_answers : {A : Type 0} (limit : ℕ) (r : Result A Stop) (stop : Stop) → limit ≡ limit_of s.command → r ≡ Err stop → StopsReading limit left faults old new stop → IsErrOf r ReadFault ⊎ (faults new ≡ faults old)
      → ((all : List ℕ) → left old ≡ Some all → length all ≤ limit → HasNoFault faults old new → stop ≡ Memory)
      → ((all : List ℕ) (fault : Refusal) → left old ≡ Some all → IsTooLongAt limit all fault → HasNoFault faults old new → (stop ≡ Refused fault) ⊎ (stop ≡ Memory))
      → (a : Result Answer Stop) (lists : List (List Entry)) (text : Option (List ℕ)) → a ≡ Err stop → lists ≡ [] → text ≡ None → AnswersSource s left faults old new a lists text
  unread_answers limit r stop e err h unfailed wants long a lists text is none unlogged =
      subst (λ q. AnswersSource s left faults old new q lists text) (sym is) (record {
        made = tt;
        stopped = reading_stops limit e stop h;
        unfailed = stop_unread stop (fault_of r stop err unfailed) (Err stop) refl;
        accepted = λ all output has o rows numbers quiet. wants all (has_left s.command s.count left old all reads has) (subst (λ n. length all ≤ n) (sym e) o.within) quiet;
        refused = λ all fault reading has f quiet. unread_fault limit e stop wants long all fault has f quiet;
        unread = λ drill. absurd (subst ReadsSource drill reads);
        history = unread s limit left faults old new (Err stop) lists stop refl none h;
        log = tt;
        keys = tt;
        later = later;
      })

-- ---- a drill
pub drill_answers : {S : Type 0} (s : Settings) (left : S → Option (List ℕ)) (faults : S → ℕ) (source : S) (a : Result Answer Stop) (lists : List (List Entry)) (text : Option (List ℕ)) → AreInRange s → s.command ≡ Drill → Drills s a lists text
    → AnswersSource s left faults source source a lists text
drill_answers s left faults source a lists text in_range e p = record {
  made = drill_made s left source source a in_range e refl p.made;
  stopped = drill_stopped s left faults source source a e refl p.stopped;
  unfailed = inr refl;
  accepted = λ input output has o rows numbers quiet.
      p.accepted output (as_drilled s left source input output e has o) (drill_rows s left source input e has rows) (drill_numbers s left source input e has numbers);
  refused = λ input fault reads has f quiet. absurd (subst ReadsSource e reads);
  unread = λ drill. refl;
  history = drill_history s left source source a lists e refl p.history;
  log = subst (λ c. OnOk a (log_bytes text ≡ log_by c s lists)) (sym e) p.log;
  keys = p.keys;
  later = omega arith;
}
