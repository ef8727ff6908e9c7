-- The lines of terms that workers made on one store, told of a specification and of the input that
-- spells it.
use Rattle.std.proofs.Common.{◌≡◌, ◌⊎◌, inl, inr, ℕ, ◌<◌, List, [], Option, None, map, Vec, Global, refl, sym, subst}
use Rattle.std.specs.Prelude.{Result, Ok, Err, IfOk, IfErr, IfSome, OnOk, All}
use Rattle.std.specs.List.{AllByRecursion}
use Rattle.faults.specs.declared.refusal.Refusal.{Refusal}
use Rattle.term_model.specs.Tree.{Tree}
use Rattle.history_core.specs.declared.entry.Entry.{Entry}
use Rattle.history_core.specs.Chronicle.{chronicle, IsLegal}
use Rattle.log_text.specs.Keys.{HaveKeys}
use Rattle.rewrite_model.specs.Rule.{Rule}
use Rattle.rewrite_model.specs.declared.event.Event.{Event}
use Rattle.rule_match.specs.Planned.{Planned, planned}
use Rattle.rec_check.specs.Spec.{specified}
use Rattle.rec_check.specs.Spelled.{Specified}
use Rattle.rec_check.specs.declared.spec.Spec.{Spec}
use Rattle.settings.specs.declared.parts.Settings.{Settings}
use Rattle.worker_crew.specs.declared.fault.AllFault.{AllFault}
use Rattle.worker_crew.specs.declared.fault.AllFault.TheVariants as workers
use Rattle.worker_crew.specs.declared.lines.Lines.{Lines}
use Rattle.work_order.specs.Lacking.{LacksRows}
use Rattle.work_order.specs.Wearing.{WearsOut}
use Rattle.work_order.specs.Lined.{said, line_of, trace_of, worker_of}
use Rattle.shared_work.specs.Sharing.{CollectsFew, EachRises, NamesWhatItBuilt}
use Rattle.shared_work.specs.Filling.{FillsRows, TellsFull}
use Rattle.shared_work.specs.Numbers.{TellsFew}
use Rattle.shared_work.specs.Wearing.{TellsWorn}
use Rattle.shared_work.specs.Fronts.{NamesFronts, TellsEach}
use Rattle.rec_answers.specs.Stops.{lines_or_stop}
use Rattle.rec_answers.specs.Rewritten.{IsInputFault, MeetsConditions, Spells}
use Rattle.rec_answers.specs.Sequence.{AreLinesOf}
use Rattle.rec_answers.specs.Answered.{StopsSpelling, StopsRewriting}
use Rattle.rec_answers.specs.declared.specification.Conditions.{Conditions}
use Rattle.rec_answers.specs.declared.stops.Stop.{Stop}
use Rattle.rec_answers.specs.declared.stops.Stop.TheVariants.{Usage, Refused, StoreFull, ReadFault, WriteFault, Memory, Worn}
use Rattle.rec_answers.proofs.Joined.{lines_made}
use Rattle.rec_answers.proofs.Sufficing.{suffices, stops_all}
use Rattle.rec_top.specs.Logged.{MayHaveLog}
use Rattle.rec_top.specs.Histories.{CountsWorkers, NamesAll, SpellsSuch}
use Rattle.rec_top.specs.Commands.{WorksSpec, WorksInput}
use Rattle.rec_top.proofs.Recounting.{legal_nothing, rises_nothing, few_nothing, stops_known, stops_spelling, early_spelling}

pub any_ok : {A E P : Type 0} (r : Result A E) → P → OnOk r P
any_ok (Ok a) p = p
any_ok (Err e) p = tt

-- ---- a specification
each_of : (s : Settings) (r : Result Lines AllFault) (lists : List (List Entry)) → TellsEach s r lists → CountsWorkers s (lines_or_stop r) lists
each_of s r lists (inl e) = inl e
each_of s (Ok lines) lists (inr h) = absurd (let bad : Ok lines ≡ Err workers.Memory = h.0 in cc)
each_of s (Err workers.StoreFull) lists (inr h) = absurd (let bad : Err workers.StoreFull ≡ Err workers.Memory = h.0 in cc)
each_of s (Err workers.Worn) lists (inr h) = absurd (let bad : Err workers.Worn ≡ Err workers.Memory = h.0 in cc)
each_of s (Err workers.Memory) lists (inr h) = inr (tt, h.1)

module _ (s : Settings) (spec : Spec) where
  none_worked : WorksSpec s spec (Err Memory) [] None
  none_worked = record {
    made = tt;
    stopped = tt;
    legal = legal_nothing s.rows [] refl;
    rises = rises_nothing [] refl;
    collects = few_nothing s [] refl;
    each = inr (tt, refl);
    built = tt;
    ended = inl refl;
    log = tt;
    keys = tt;
  }

  -- no term was rewritten
  pub nothing_worked : (r : Result Lines Stop) (lists : List (List Entry)) (text : Option (List ℕ)) → r ≡ Err Memory → lists ≡ [] → text ≡ None → WorksSpec s spec r lists text
  nothing_worked r lists text e none unlogged =
      subst (λ q. WorksSpec s spec q lists text) (sym e)
      (subst (λ ls. WorksSpec s spec (Err Memory) ls text) (sym none)
      (subst (WorksSpec s spec (Err Memory) []) (sym unlogged) none_worked))

  module _ (plan : Planned) (terms : List Tree) (p : plan ≡ planned spec.rules.items spec.widest) (t : terms ≡ spec.terms.items) (lists : List (List Entry)) (text : Option (List ℕ))
      (legal : IsLegal s.rows (chronicle lists)) (rises : EachRises lists) (collects : CollectsFew s lists) (log : MayHaveLog s lists text) (keys : IfSome text (λ bytes. AllByRecursion HaveKeys lists)) where
    at : (P : List Rule → List Tree → Type 0) → P plan.rules terms → P spec.rules.items spec.terms.items
    at P h = subst (P spec.rules.items) t (subst (λ (q : Planned). P q.rules terms) p h)

    worked : (r : Result Lines AllFault) → IfOk r (λ l. map said l.list.items ≡ map (line_of s spec.symbols plan.rules) terms)
        → IfOk r (λ l. map (λ (es : Vec Event Global). es.items) l.traces.items ≡ map (trace_of s plan.rules) terms) → IfOk r (λ l. All (λ w. w < s.workers) (map worker_of l.list.items))
        → CountsWorkers s (lines_or_stop r) lists → IfOk r (λ l. NamesWhatItBuilt s plan.rules terms (map worker_of l.list.items) lists)
        → IfErr r (TellsFull s plan.rules terms lists) → IfErr r (TellsFew s plan.rules terms) → IfErr r (TellsWorn s plan.rules terms) → IfErr r (λ fault. NamesFronts s plan.rules terms lists)
        → WorksSpec s spec (lines_or_stop r) lists text
    worked (Ok l) lines traces by each built full few worn front = record {
      made = lines_made s (specified spec) plan spec.widest terms l s.workers p t lines traces by refl;
      stopped = tt;
      legal = legal;
      rises = rises;
      collects = collects;
      each = each;
      built = at (λ rules ts. NamesWhatItBuilt s rules ts (map worker_of l.list.items) lists) built;
      ended = tt;
      log = log;
      keys = keys;
    }
    worked (Err workers.StoreFull) lines traces by each built full few worn front = record {
      made = tt;
      stopped = at (LacksRows s) (few refl);
      legal = legal;
      rises = rises;
      collects = collects;
      each = each;
      built = tt;
      ended = (at (λ rules ts. FillsRows s rules ts lists) (full refl), at (λ rules ts. NamesFronts s rules ts lists) front);
      log = log;
      keys = keys;
    }
    worked (Err workers.Worn) lines traces by each built full few worn front = record {
      made = tt;
      stopped = at (WearsOut s) (worn refl);
      legal = legal;
      rises = rises;
      collects = collects;
      each = each;
      built = tt;
      ended = at (λ rules ts. NamesFronts s rules ts lists) front;
      log = log;
      keys = keys;
    }
    worked (Err workers.Memory) lines traces by each built full few worn front = record {
      made = tt;
      stopped = tt;
      legal = legal;
      rises = rises;
      collects = collects;
      each = each;
      built = tt;
      ended = inr (at (λ rules ts. NamesFronts s rules ts lists) front);
      log = log;
      keys = keys;
    }

    -- the terms were rewritten
    pub spec_worked : (r : Result Lines AllFault) (made : Result Lines Stop) → made ≡ lines_or_stop r → IfOk r (λ l. map said l.list.items ≡ map (line_of s spec.symbols plan.rules) terms)
        → IfOk r (λ l. map (λ (es : Vec Event Global). es.items) l.traces.items ≡ map (trace_of s plan.rules) terms) → IfOk r (λ l. All (λ w. w < s.workers) (map worker_of l.list.items))
        → TellsEach s r lists → IfOk r (λ l. NamesWhatItBuilt s plan.rules terms (map worker_of l.list.items) lists)
        → IfErr r (TellsFull s plan.rules terms lists) → IfErr r (TellsFew s plan.rules terms) → IfErr r (TellsWorn s plan.rules terms) → IfErr r (λ fault. NamesFronts s plan.rules terms lists)
        → WorksSpec s spec made lists text
    spec_worked r made e lines traces by each built full few worn front =
        subst (λ q. WorksSpec s spec q lists text) (sym e) (worked r lines traces by (each_of s r lists each) built full few worn front)

-- ---- an input
spelling_stops : (kind : Conditions) (s : Settings) (input : List ℕ) (stop : Stop) → StopsSpelling kind input stop → StopsRewriting kind s input stop
spelling_stops kind s input Usage h = h
spelling_stops kind s input (Refused fault) h = h
spelling_stops kind s input StoreFull h = absurd h
spelling_stops kind s input ReadFault h = h
spelling_stops kind s input WriteFault h = h
spelling_stops kind s input Memory h = h
spelling_stops kind s input Worn h = absurd h

module _ (kind : Conditions) (s : Settings) (input : List ℕ) where
  -- it spells a specification, whose terms are rewritten
  module _ (spec : Spec) (spells : Spells input (specified spec)) (meets : MeetsConditions kind input) (faultless : (fault : Refusal) → IsInputFault kind input fault → ⊥) where
    lines_found : (r : Result Lines Stop) (P : Specified → Lines → Type 0) → IfOk r (P (specified spec)) → IfOk r (λ l. (w : Specified) × Spells input w × P w l)
    lines_found (Ok l) P h = (specified spec, spells, h)
    lines_found (Err stop) P h = tt

    pub input_worked : (r : Result Lines Stop) (lists : List (List Entry)) (text : Option (List ℕ)) → WorksSpec s spec r lists text → WorksInput kind s input r lists text
    input_worked r lists text w = record {
      made = lines_found r (λ v (l : Lines). AreLinesOf s v l) w.made;
      meets = any_ok r meets;
      stopped = stops_all kind s input (specified spec) r spells w.stopped;
      accepted = λ wanted o m rows numbers. suffices (λ v (l : Lines). AreLinesOf s v l) s input (specified spec) wanted r spells o rows numbers w.made w.stopped;
      refused = λ fault f. absurd (faultless fault f);
      legal = w.legal;
      rises = w.rises;
      collects = w.collects;
      each = w.each;
      built = lines_found r (λ v (l : Lines). NamesAll (map worker_of l.list.items) lists s v) w.built;
      ended = stops_known s (λ P. P (specified spec)) (SpellsSuch input) lists r (λ P h. (specified spec, spells, h)) w.ended;
      log = w.log;
      keys = w.keys;
    }

  -- it spells none
  module _ (stop : Stop) (why : StopsSpelling kind input stop) (accepted : (spec : Specified) → Spells input spec → MeetsConditions kind input → stop ≡ Memory)
      (refused : (fault : Refusal) → IsInputFault kind input fault → (stop ≡ Refused fault) ⊎ (stop ≡ Memory)) where
    unspelled : WorksInput kind s input (Err stop) [] None
    unspelled = record {
      made = tt;
      meets = tt;
      stopped = spelling_stops kind s input stop why;
      accepted = λ spec o m rows numbers. accepted spec o m;
      refused = refused;
      legal = legal_nothing s.rows [] refl;
      rises = rises_nothing [] refl;
      collects = few_nothing s [] refl;
      each = inr (early_spelling kind input stop why, refl);
      built = tt;
      ended = stops_spelling kind s (SpellsSuch input) input [] stop refl why;
      log = tt;
      keys = tt;
    }

    pub input_unspelled : (r : Result Lines Stop) (lists : List (List Entry)) (text : Option (List ℕ)) → r ≡ Err stop → lists ≡ [] → text ≡ None → WorksInput kind s input r lists text
    input_unspelled r lists text e none unlogged =
        subst (λ q. WorksInput kind s input q lists text) (sym e)
        (subst (λ ls. WorksInput kind s input (Err stop) ls text) (sym none)
        (subst (WorksInput kind s input (Err stop) []) (sym unlogged) unspelled))
