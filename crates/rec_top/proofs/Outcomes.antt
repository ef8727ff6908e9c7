-- What the history tells of an answer that may not have been made, where it is known how it ended.
use Rattle.std.proofs.Common.{◌≡◌, ◌⊎◌, inl, inr, ℕ, List, [], map, sym, subst}
use Rattle.std.specs.Prelude.{Result, Ok, Err, IfOk, IfErr, length}
use Rattle.history_core.specs.declared.entry.Entry.{Entry}
use Rattle.history_core.specs.Chronicle.{chronicle, IsLegal}
use Rattle.settings.specs.declared.parts.Settings.{Settings}
use Rattle.worker_crew.specs.declared.lines.Lines.{Lines}
use Rattle.work_order.specs.Lined.{worker_of}
use Rattle.shared_work.specs.Sharing.{CollectsFew, EachRises}
use Rattle.rec_check.specs.Spelled.{Specified}
use Rattle.rec_answers.specs.Rewritten.{Spells}
use Rattle.rec_answers.specs.Sequence.{AreLinesOf}
use Rattle.rec_answers.specs.Stops.{stop_of_drill}
use Rattle.rec_top.specs.Histories.{SpellsSuch, StopsEarly, CountsWorkers, NamesAll, TellsStop, TellsTerms}
use Rattle.rec_answers.specs.declared.answers.Answer.{Answer}
use Rattle.rec_answers.specs.declared.stops.Stop.{Stop}
use Rattle.rec_answers.specs.declared.stops.Stop.TheVariants.{Usage, Refused, StoreFull, ReadFault, WriteFault, Memory, Worn}
use Rattle.rec_answers.proofs.Outcomes.{if_ok, if_err}
use Rattle.rec_top.proofs.Drawing.{whole_front}
use Rattle.rec_top.proofs.Recounting.{Of}

-- ---- how many workers the history tells of
count_of : {A : Type 0} (s : Settings) (r : Result A Stop) (a : A) (lists : List (List Entry)) → r ≡ Ok a → CountsWorkers s r lists → length lists ≡ s.workers
count_of s (Err stop) a lists is h = absurd (let bad : Err stop ≡ Ok a = is in cc)
count_of s (Ok b) a lists is (inl e) = e
count_of s (Ok b) a lists is (inr h) = absurd h.0

abbrev CountsFor : Settings → List (List Entry) → Stop → Type 0
CountsFor s lists stop = (length lists ≡ s.workers) ⊎ (StopsEarly stop × (lists ≡ []))

count_stopped : {A : Type 0} (s : Settings) (r : Result A Stop) (stop : Stop) (lists : List (List Entry)) → r ≡ Err stop → CountsWorkers s r lists → CountsFor s lists stop
count_stopped s (Ok a) stop lists is h = absurd (let bad : Ok a ≡ Err stop = is in cc)
count_stopped s (Err why) stop lists is (inl e) = inl e
count_stopped s (Err why) stop lists is (inr h) = let same : why ≡ stop = cc in inr (subst StopsEarly same h.0, h.1)

-- ---- the history of an answer that is told of lines
module _ (s : Settings) (input : List ℕ) (lines : Lines) (lists : List (List Entry)) (legal : IsLegal s.rows (chronicle lists)) (rises : EachRises lists) (few : CollectsFew s lists) (count : length lists ≡ s.workers)
    (made : (spec : Specified) × Spells input spec × AreLinesOf s spec lines) (built : SpellsSuch input (NamesAll (map worker_of lines.list.items) lists s)) where
  told_lines : (a : Result Answer Stop) → IfOk a (λ answer. answer.workers ≡ map worker_of lines.list.items) → IfErr a (λ why. why ≡ Memory) → TellsTerms s (SpellsSuch input) a lists
  told_lines (Ok answer) workers why = record {
    legal = legal;
    rises = rises;
    collects = few;
    each = inl count;
    answered = subst (λ ws. SpellsSuch input (NamesAll ws lists s)) (sym workers) built;
    stopped = tt;
  }
  told_lines (Err stop) workers why = record {
    legal = legal;
    rises = rises;
    collects = few;
    each = inl count;
    answered = tt;
    stopped = subst (TellsStop s (SpellsSuch input) lists) (sym why) (inr (whole_front s input lines lists made built));
  }

pub tells_lines : (s : Settings) (input : List ℕ) (r : Result Lines Stop) (lines : Lines) (a : Result Answer Stop) (lists : List (List Entry)) → r ≡ Ok lines → IsLegal s.rows (chronicle lists) → EachRises lists → CollectsFew s lists → CountsWorkers s r lists
    → IfOk r (λ l. (spec : Specified) × Spells input spec × AreLinesOf s spec l) → IfOk r (λ l. SpellsSuch input (NamesAll (map worker_of l.list.items) lists s))
    → IfOk a (λ answer. answer.workers ≡ map worker_of lines.list.items) → IfErr a (λ why. why ≡ Memory) → TellsTerms s (SpellsSuch input) a lists
tells_lines s input r lines a lists is legal rises few count made built workers why =
    told_lines s input lines lists legal rises few (count_of s r lines lists is count)
    (if_ok (λ (l : Lines). (spec : Specified) × Spells input spec × AreLinesOf s spec l) r lines is made)
    (if_ok (λ (l : Lines). SpellsSuch input (NamesAll (map worker_of l.list.items) lists s)) r lines is built) a workers why

-- and of one without lines
pub tells_no_lines : {A : Type 0} (s : Settings) (of : Of) (r : Result A Stop) (stop : Stop) (lists : List (List Entry)) → r ≡ Err stop → IsLegal s.rows (chronicle lists) → EachRises lists → CollectsFew s lists → CountsWorkers s r lists → IfErr r (TellsStop s of lists)
    → TellsTerms s of (Err stop) lists
tells_no_lines s of r stop lists is legal rises few count ended =
    record { legal = legal; rises = rises; collects = few; each = count_stopped s r stop lists is count; answered = tt; stopped = if_err (TellsStop s of lists) r stop is ended }

-- ---- why a drill stops
drill_tells : (s : Settings) (of : Of) (lists : List (List Entry)) (stop : Stop) → TellsStop s of lists stop → TellsStop s of lists (stop_of_drill stop)
drill_tells s of lists Usage h = h
drill_tells s of lists (Refused fault) h = inl h
drill_tells s of lists StoreFull h = h
drill_tells s of lists ReadFault h = h
drill_tells s of lists WriteFault h = h
drill_tells s of lists Memory h = h
drill_tells s of lists Worn h = h

drill_count : (s : Settings) (lists : List (List Entry)) (stop : Stop) → CountsFor s lists stop → CountsFor s lists (stop_of_drill stop)
drill_count s lists Usage h = h
drill_count s lists (Refused fault) h = h
drill_count s lists StoreFull h = h
drill_count s lists ReadFault h = h
drill_count s lists WriteFault h = h
drill_count s lists Memory h = h
drill_count s lists Worn h = h

pub tells_no_drill : {A : Type 0} (s : Settings) (of : Of) (r : Result A Stop) (stop : Stop) (lists : List (List Entry)) → r ≡ Err stop → IsLegal s.rows (chronicle lists) → EachRises lists → CollectsFew s lists → CountsWorkers s r lists → IfErr r (TellsStop s of lists)
    → TellsTerms s of (Err (stop_of_drill stop)) lists
tells_no_drill s of r stop lists is legal rises few count ended =
    record { legal = legal; rises = rises; collects = few; each = drill_count s lists stop (count_stopped s r stop lists is count); answered = tt; stopped = drill_tells s of lists stop (if_err (TellsStop s of lists) r stop is ended) }
