-- What a command answers, told of the lines of its terms, of its input, and of the source that gave
-- it.
use Rattle.std.proofs.Common.{◌≡◌, inl, inr, ℕ, List, [], Bool, Option, None, length, map, refl, sym, ap, subst}
use Rattle.std.specs.Prelude.{Result, Ok, Err, IfOk, IfErr, OnOk, is_some}
use Rattle.history_core.specs.declared.entry.Entry.{Entry}
use Rattle.rec_check.specs.Spelled.{Specified}
use Rattle.rec_drill.specs.Drill.{drill_bytes}
use Rattle.settings.specs.declared.parts.Settings.{Settings}
use Rattle.worker_crew.specs.declared.lines.Lines.{Lines}
use Rattle.work_order.specs.Lined.{worker_of}
use Rattle.rec_answers.specs.Written.{Output}
use Rattle.rec_answers.specs.Drilled.{IsDrilled, drill_output}
use Rattle.rec_answers.specs.Stops.{stop_of_drill}
use Rattle.rec_answers.specs.Rewritten.{IsRewritten, Spells, output_of}
use Rattle.rec_answers.specs.Sequence.{AreLinesOf}
use Rattle.rec_answers.specs.Logged.{HaveLogKeys, IsThere, log_asked, log_bytes}
use Rattle.rec_answers.specs.Answered.{IsAnswer, StopsRewriting, StopsDrilling, Answers}
use Rattle.rec_answers.specs.declared.answers.Answer.{Answer}
use Rattle.rec_answers.specs.declared.specification.Conditions.{Conditions}
use Rattle.rec_answers.specs.declared.specification.Conditions.TheVariants as conditions
use Rattle.rec_answers.specs.declared.stops.Stop.{Stop}
use Rattle.rec_answers.specs.declared.stops.Stop.TheVariants.{Usage, Refused, StoreFull, ReadFault, WriteFault, Memory, Worn}
use Rattle.rec_answers.proofs.Joined.{one_each}
use Rattle.rec_answers.proofs.Outcomes.{but_memory}
use Rattle.rec_top.specs.Histories.{SpellsSuch, TellsTerms}
use Rattle.rec_top.specs.Commands.{WorksInput, RewritesInput, Drills}
use Rattle.rec_top.proofs.GoodLogs.{keys_where}
use Rattle.rec_top.proofs.Logged.{log_where}
use Rattle.rec_top.proofs.Outcomes.{tells_lines, tells_no_lines, tells_no_drill}
use Rattle.rec_top.proofs.Recounting.{legal_nothing, rises_nothing, few_nothing}
use Rattle.rec_top.proofs.Working.{any_ok}

-- ---- lines
only_memory : (P : Stop → Type 0) (a : Result Answer Stop) → P Memory → IfErr a (λ why. why ≡ Memory) → IfErr a P
only_memory P (Ok answer) h why = tt
only_memory P (Err stop) h why = subst P (sym why) h

-- lines that were made have as many lists of events
pub one_each_made : (kind : Conditions) (s : Settings) (input : List ℕ) (r : Result Lines Stop) (lists : List (List Entry)) (text : Option (List ℕ)) (lines : Lines) → r ≡ Ok lines → WorksInput kind s input r lists text
    → length lines.traces.items ≡ length lines.list.items
one_each_made kind s input r lists text lines is w =
    let made = (subst (λ q. WorksInput kind s input q lists text) is w).made in
    one_each s made.0 lines made.2

module _ (kind : Conditions) (s : Settings) (input : List ℕ) (lists : List (List Entry)) (text : Option (List ℕ)) (lines : Lines) (w : WorksInput kind s input (Ok lines) lists text) (a : Result Answer Stop)
    (of : Specified → Output) (made : (spec : Specified) → AreLinesOf s spec lines → IfOk a (λ answer. IsAnswer s.workers answer (of spec)))
    (workers : IfOk a (λ answer. answer.workers ≡ map worker_of lines.list.items)) (why : IfErr a (λ stop. stop ≡ Memory))
    (there : Bool) (same : there ≡ is_some text) (logged : OnOk a (IsThere s there)) where
  told_from : (P : Output → Type 0) → ((spec : Specified) → Spells input spec → P (of spec)) → IfOk a (λ answer. (output : Output) × P output × IsAnswer s.workers answer output)
  told_from P h = go a (made w.made.0 w.made.2)
    where
      go : (b : Result Answer Stop) → IfOk b (λ answer. IsAnswer s.workers answer (of w.made.0)) → IfOk b (λ answer. (output : Output) × P output × IsAnswer s.workers answer output)
      go (Ok answer) m = (of w.made.0, h w.made.0 w.made.1, m)
      go (Err stop) m = tt

  told_for : (spec : Specified) (output : Output) → output ≡ of spec → AreLinesOf s spec lines → Answers a (λ answer. IsAnswer s.workers answer output)
  told_for spec output e are =
      subst (λ out. Answers a (λ (answer : Answer). IsAnswer s.workers answer out)) (sym e)
      (but_memory (λ (answer : Answer). IsAnswer s.workers answer (of spec)) a (made spec are) why)

  told_history : TellsTerms s (SpellsSuch input) a lists
  told_history = tells_lines s input (Ok lines) lines a lists refl w.legal w.rises w.collects w.each w.made w.built workers why

  told_log : OnOk a (log_bytes text ≡ log_asked s lists)
  told_log = log_where s lists text there a same w.log logged

  told_keys : OnOk a (HaveLogKeys s lists)
  told_keys = keys_where s lists text there a same w.keys logged

-- ---- `rewrite` and `outermost`
pub lines_rewritten : (kind : Conditions) (s : Settings) (input : List ℕ) (r : Result Lines Stop) (lists : List (List Entry)) (text : Option (List ℕ)) (lines : Lines) (a : Result Answer Stop) (there : Bool) → r ≡ Ok lines → WorksInput kind s input r lists text
    → ((spec : Specified) → AreLinesOf s spec lines → IfOk a (λ answer. IsAnswer s.workers answer (output_of s spec)))
    → IfOk a (λ answer. answer.workers ≡ map worker_of lines.list.items) → IfErr a (λ stop. stop ≡ Memory) → there ≡ is_some text → OnOk a (IsThere s there) → RewritesInput kind s input a lists text
lines_rewritten kind s input r lists text lines a there is before made workers why same logged =
    let w : WorksInput kind s input (Ok lines) lists text = subst (λ q. WorksInput kind s input q lists text) is before in
    let of = output_of s in
    record {
      made = told_from kind s input lists text lines w a of made workers why there same logged (IsRewritten s input) (λ spec spells. record { spec = spec; spelled = spells; output_is = refl });
      meets = any_ok a w.meets;
      stopped = only_memory (StopsRewriting kind s input) a tt why;
      accepted = λ output o m rows numbers. told_for kind s input lists text lines w a of made workers why there same logged o.spec output o.output_is (w.accepted o.spec o.spelled m rows numbers);
      refused = λ fault f. absurd (w.refused fault f);
      history = told_history kind s input lists text lines w a of made workers why there same logged;
      log = told_log kind s input lists text lines w a of made workers why there same logged;
      keys = told_keys kind s input lists text lines w a of made workers why there same logged;
    }

pub none_rewritten : (kind : Conditions) (s : Settings) (input : List ℕ) (r : Result Lines Stop) (lists : List (List Entry)) (text : Option (List ℕ)) (stop : Stop) → r ≡ Err stop → WorksInput kind s input r lists text
    → RewritesInput kind s input (Err stop) lists None
none_rewritten kind s input r lists text stop is before =
    let w : WorksInput kind s input (Err stop) lists text = subst (λ q. WorksInput kind s input q lists text) is before in
    record {
      made = tt;
      meets = tt;
      stopped = w.stopped;
      accepted = λ output o m rows numbers. w.accepted o.spec o.spelled m rows numbers;
      refused = w.refused;
      history = tells_no_lines s (SpellsSuch input) r stop lists is before.legal before.rises before.collects before.each before.ended;
      log = tt;
      keys = tt;
    }

-- ---- `drill`
drill_stops : (s : Settings) (stop : Stop) → StopsRewriting conditions.Accepted s (drill_bytes s.count) stop → StopsDrilling s (stop_of_drill stop)
drill_stops s Usage h = h
drill_stops s (Refused fault) h = tt
drill_stops s StoreFull h = h
drill_stops s ReadFault h = h
drill_stops s WriteFault h = h
drill_stops s Memory h = h
drill_stops s Worn h = h

pub none_drilled : (s : Settings) (a : Result Answer Stop) (lists : List (List Entry)) (text : Option (List ℕ)) → a ≡ Err Memory → lists ≡ [] → text ≡ None → Drills s a lists text
none_drilled s a lists text e none unlogged =
    subst (λ q. Drills s q lists text) (sym e)
    (subst (λ ls. Drills s (Err Memory) ls text) (sym none)
    (subst (Drills s (Err Memory) []) (sym unlogged) (record {
      made = tt;
      stopped = tt;
      accepted = λ output d rows numbers. refl;
      history = record { legal = legal_nothing s.rows [] refl; rises = rises_nothing [] refl; collects = few_nothing s [] refl; each = inr (tt, refl); answered = tt; stopped = inl refl };
      log = tt;
      keys = tt;
    })))

module _ (s : Settings) (input : List ℕ) (drilled : input ≡ drill_bytes s.count) (r : Result Lines Stop) (lists : List (List Entry)) (text : Option (List ℕ)) (before : WorksInput conditions.Accepted s input r lists text) where
  abbrev bytes : List ℕ
  bytes = drill_bytes s.count

  works : WorksInput conditions.Accepted s bytes r lists text
  works = subst (λ i. WorksInput conditions.Accepted s i r lists text) drilled before

  pub lines_drilled : (lines : Lines) (a : Result Answer Stop) (there : Bool) → r ≡ Ok lines → ((spec : Specified) → AreLinesOf s spec lines → IfOk a (λ answer. IsAnswer s.workers answer (drill_output s spec)))
      → IfOk a (λ answer. answer.workers ≡ map worker_of lines.list.items) → IfErr a (λ stop. stop ≡ Memory) → there ≡ is_some text → OnOk a (IsThere s there) → Drills s a lists text
  lines_drilled lines a there is made workers why same logged =
      let w : WorksInput conditions.Accepted s bytes (Ok lines) lists text = subst (λ q. WorksInput conditions.Accepted s bytes q lists text) is works in
      let of = drill_output s in
      record {
        made = told_from conditions.Accepted s bytes lists text lines w a of made workers why there same logged (IsDrilled s bytes) (λ spec spells. record { spec = spec; spelled = spells; output_is = refl });
        stopped = only_memory (StopsDrilling s) a tt why;
        accepted = λ output d rows numbers. told_for conditions.Accepted s bytes lists text lines w a of made workers why there same logged d.spec output d.output_is (w.accepted d.spec d.spelled tt rows numbers);
        history = told_history conditions.Accepted s bytes lists text lines w a of made workers why there same logged;
        log = told_log conditions.Accepted s bytes lists text lines w a of made workers why there same logged;
        keys = told_keys conditions.Accepted s bytes lists text lines w a of made workers why there same logged;
      }

  pub lines_undrilled : (stop told : Stop) → r ≡ Err stop → told ≡ stop_of_drill stop → Drills s (Err told) lists None
  lines_undrilled stop told is e =
      let w : WorksInput conditions.Accepted s bytes (Err stop) lists text = subst (λ q. WorksInput conditions.Accepted s bytes q lists text) is works in
      subst (λ why. Drills s (Err why) lists None) (sym e) (record {
        made = tt;
        stopped = drill_stops s stop w.stopped;
        accepted = λ output d rows numbers. ap stop_of_drill (w.accepted d.spec d.spelled tt rows numbers);
        history = tells_no_drill s (SpellsSuch bytes) r stop lists is works.legal works.rises works.collects works.each works.ended;
        log = tt;
        keys = tt;
      })
