-- What a history tells of an input, told of the run that read it.
use Rattle.std.proofs.Common.{◌≡◌, ◌⊎◌, inl, inr, ℕ, List, [], Option, Some, None, refl, sym, ap, subst, ◌∙◌, arith}
use Rattle.std.specs.Prelude.{Result, Ok, Err, IfOk, IfErr, OnOk, IsErrAnd, length}
use Rattle.std.proofs.lemmas.Option.{same_Some}
use Rattle.history_core.specs.declared.entry.Entry.{Entry}
use Rattle.history_core.specs.Chronicle.{chronicle, entries_of, IsLegal}
use Rattle.history_core.proofs.Own.{own_order_stays}
use Rattle.history_core.proofs.Places.{rising_never_falls}
use Rattle.settings.specs.Words.{settings_of}
use Rattle.settings.specs.declared.parts.Command.{Command}
use Rattle.settings.specs.declared.parts.Command.TheVariants.{Rewrite, Drill, Schedule, Terms, Pack, Unpack, CheckLog, CheckTrace, Outermost}
use Rattle.settings.specs.declared.parts.Settings.{Settings}
use Rattle.shared_work.specs.Sharing.{CollectsFew, EachRises}
use Rattle.rec_check.specs.Spelled.{Specified}
use Rattle.rec_drill.specs.Drill.{drill_bytes}
use Rattle.rec_answers.specs.Input.{GaveInput}
use Rattle.rec_answers.specs.Lines.{stop_status}
use Rattle.rec_answers.specs.Logged.{log_bytes, log_by}
use Rattle.rec_answers.specs.Run.{IsMade, Rewrites, AsksRewriting}
use Rattle.rec_answers.specs.Answered.{StopsSpelling, StopsReading, StopsAnswering}
use Rattle.rec_top.specs.Histories.{HasLegalHistory, StandInTurn, HasFewCollects, MayEndEarly, HasEach, StopsEarly, CountsWorkers, SpellsSuch, GaveSuch, HasSuch, NamesAll, NamesAllFronts, Fills, TellsStop, TellsTerms, TellsFor, TellsHistory}
use Rattle.rec_answers.specs.declared.answers.Answer.{Answer}
use Rattle.rec_answers.specs.declared.specification.Conditions.{Conditions}
use Rattle.rec_answers.specs.declared.stops.Stop.{Stop}
use Rattle.rec_answers.proofs.Inputs.{gave_text}
use Rattle.rec_answers.specs.declared.stops.Stop.TheVariants.{Usage, Refused, StoreFull, ReadFault, WriteFault, Memory, Worn}

-- ---- a history without entries
pub legal_nothing : (rows : ℕ) (lists : List (List Entry)) → lists ≡ [] → IsLegal rows (chronicle lists)
legal_nothing rows lists e = subst (λ l. IsLegal rows (chronicle l)) (sym e) tt

pub few_nothing : (s : Settings) (lists : List (List Entry)) → lists ≡ [] → CollectsFew s lists
few_nothing s lists e = subst (CollectsFew s) (sym e) (λ k below. omega arith)

pub rises_nothing : (lists : List (List Entry)) → lists ≡ [] → EachRises lists
rises_nothing lists e = subst EachRises (sym e) (λ k. tt)

-- entries whose keys rise stand in the chronicle in their own order
pub in_turn : (lists : List (List Entry)) → EachRises lists → StandInTurn lists
in_turn lists rises = λ k. (own_order_stays lists k (rising_never_falls (entries_of lists k) (rises k)), rises k)

pub none_in_turn : (lists : List (List Entry)) → lists ≡ [] → StandInTurn lists
none_in_turn lists e = in_turn lists (rises_nothing lists e)

pub legal_of_none : (words : List (List ℕ)) (lists : List (List Entry)) → lists ≡ [] → HasLegalHistory words lists
legal_of_none words lists e = λ s accepted. legal_nothing s.rows lists e

pub few_of_none : (words : List (List ℕ)) (lists : List (List Entry)) → lists ≡ [] → HasFewCollects words lists
few_of_none words lists e = λ s accepted. few_nothing s lists e

-- ---- what is known of an input is known of what spells it, and of the source that gave it
abbrev pub Of : Type 1
Of = (Specified → Type 0) → Type 0

pub stop_known : (s : Settings) (of more : Of) (lists : List (List Entry)) (stop : Stop) → ((P : Specified → Type 0) → of P → more P) → TellsStop s of lists stop → TellsStop s more lists stop
stop_known s of more lists Usage f h = h
stop_known s of more lists (Refused fault) f h = h
stop_known s of more lists StoreFull f h = (f (Fills lists s) h.0, f (NamesAllFronts lists s) h.1)
stop_known s of more lists ReadFault f h = h
stop_known s of more lists WriteFault f h = h
stop_known s of more lists Memory f (inl e) = inl e
stop_known s of more lists Memory f (inr h) = inr (f (NamesAllFronts lists s) h)
stop_known s of more lists Worn f h = f (NamesAllFronts lists s) h

pub stops_known : {A : Type 0} (s : Settings) (of more : Of) (lists : List (List Entry)) (r : Result A Stop) → ((P : Specified → Type 0) → of P → more P) → IfErr r (TellsStop s of lists) → IfErr r (TellsStop s more lists)
stops_known s of more lists (Ok a) f h = tt
stops_known s of more lists (Err stop) f h = stop_known s of more lists stop f h

answer_known : (s : Settings) (of more : Of) (lists : List (List Entry)) (r : Result Answer Stop) → ((P : Specified → Type 0) → of P → more P) → IfOk r (λ a. of (NamesAll a.workers lists s)) → IfOk r (λ a. more (NamesAll a.workers lists s))
answer_known s of more lists (Ok a) f h = f (NamesAll a.workers lists s) h
answer_known s of more lists (Err stop) f h = tt

terms_known : (s : Settings) (of more : Of) (lists : List (List Entry)) (r : Result Answer Stop) → ((P : Specified → Type 0) → of P → more P) → TellsTerms s of r lists → TellsTerms s more r lists
terms_known s of more lists r f t = record {
  legal = t.legal;
  rises = t.rises;
  collects = t.collects;
  each = t.each;
  answered = answer_known s of more lists r f t.answered;
  stopped = stops_known s of more lists r f t.stopped;
}

history_known : (c : Command) (s : Settings) (of more : Of) (lists : List (List Entry)) (r : Result Answer Stop) → ((P : Specified → Type 0) → of P → more P) → TellsFor c s of r lists → TellsFor c s more r lists
history_known Rewrite s of more lists r f t = terms_known s of more lists r f t
history_known Drill s of more lists r f t = terms_known s of more lists r f t
history_known Schedule s of more lists r f t = t
history_known Terms s of more lists r f t = t
history_known Pack s of more lists r f t = t
history_known Unpack s of more lists r f t = t
history_known CheckLog s of more lists r f t = t
history_known CheckTrace s of more lists r f t = t
history_known Outermost s of more lists r f t = terms_known s of more lists r f t

-- the source gave the input
pub given : {S : Type 0} (s : Settings) (left : S → Option (List ℕ)) (old new : S) (input : List ℕ) (r : Result Answer Stop) (lists : List (List Entry)) → GaveInput s left old new input
    → TellsHistory s (SpellsSuch input) r lists → TellsHistory s (GaveSuch s left old new) r lists
given s left old new input r lists gave t = history_known s.command s (SpellsSuch input) (GaveSuch s left old new) lists r (λ P p. (input, gave, p)) t

-- for a drill nothing was given: the input is its text
pub drill_history : {S : Type 0} (s : Settings) (left : S → Option (List ℕ)) (old new : S) (r : Result Answer Stop) (lists : List (List Entry)) → s.command ≡ Drill → new ≡ old
    → TellsTerms s (SpellsSuch (drill_bytes s.count)) r lists → TellsHistory s (GaveSuch s left old new) r lists
drill_history s left old new r lists e same t =
    subst (λ c. TellsFor c s (GaveSuch s left old new) r lists) (sym e)
    (terms_known s (SpellsSuch (drill_bytes s.count)) (GaveSuch s left old new) lists r (λ P p. (drill_bytes s.count, gave_text s left old new e same, p)) t)

-- a command that rewrites nothing has none, and no log of it
pub alone_tells : (c : Command) (s : Settings) (of : Of) (r : Result Answer Stop) (lists : List (List Entry)) → (Rewrites c → ⊥) → lists ≡ [] → TellsFor c s of r lists
alone_tells Rewrite s of r lists alone e = absurd (alone tt)
alone_tells Drill s of r lists alone e = absurd (alone tt)
alone_tells Schedule s of r lists alone e = e
alone_tells Terms s of r lists alone e = e
alone_tells Pack s of r lists alone e = e
alone_tells Unpack s of r lists alone e = e
alone_tells CheckLog s of r lists alone e = e
alone_tells CheckTrace s of r lists alone e = e
alone_tells Outermost s of r lists alone e = absurd (alone tt)

no_log : (c : Command) (s : Settings) (lists : List (List Entry)) (log : Option (List ℕ)) → (Rewrites c → ⊥) → log ≡ None → log_bytes log ≡ log_by c s lists
no_log Rewrite s lists log alone e = absurd (alone tt)
no_log Drill s lists log alone e = absurd (alone tt)
no_log Schedule s lists log alone e = ap log_bytes e
no_log Terms s lists log alone e = ap log_bytes e
no_log Pack s lists log alone e = ap log_bytes e
no_log Unpack s lists log alone e = ap log_bytes e
no_log CheckLog s lists log alone e = ap log_bytes e
no_log CheckTrace s lists log alone e = ap log_bytes e
no_log Outermost s lists log alone e = absurd (alone tt)

pub alone_logs : {A E : Type 0} (c : Command) (s : Settings) (lists : List (List Entry)) (log : Option (List ℕ)) (r : Result A E) → (Rewrites c → ⊥) → log ≡ None → OnOk r (log_bytes log ≡ log_by c s lists)
alone_logs c s lists log (Ok a) alone e = no_log c s lists log alone e
alone_logs c s lists log (Err stop) alone e = tt

-- ---- a command that stops before any term is rewritten
pub stops_spelling : (kind : Conditions) (s : Settings) (of : Of) (input : List ℕ) (lists : List (List Entry)) (stop : Stop) → lists ≡ [] → StopsSpelling kind input stop → TellsStop s of lists stop
stops_spelling kind s of input lists Usage e h = e
stops_spelling kind s of input lists (Refused fault) e h = e
stops_spelling kind s of input lists StoreFull e h = absurd h
stops_spelling kind s of input lists ReadFault e h = e
stops_spelling kind s of input lists WriteFault e h = e
stops_spelling kind s of input lists Memory e h = inl e
stops_spelling kind s of input lists Worn e h = absurd h

stops_reading : {S : Type 0} (s : Settings) (of : Of) (limit : ℕ) (left : S → Option (List ℕ)) (faults : S → ℕ) (old new : S) (lists : List (List Entry)) (stop : Stop) → lists ≡ [] → StopsReading limit left faults old new stop → TellsStop s of lists stop
stops_reading s of limit left faults old new lists Usage e h = e
stops_reading s of limit left faults old new lists (Refused fault) e h = e
stops_reading s of limit left faults old new lists StoreFull e h = absurd h
stops_reading s of limit left faults old new lists ReadFault e h = e
stops_reading s of limit left faults old new lists WriteFault e h = e
stops_reading s of limit left faults old new lists Memory e h = inl e
stops_reading s of limit left faults old new lists Worn e h = absurd h

pub early_spelling : (kind : Conditions) (input : List ℕ) (stop : Stop) → StopsSpelling kind input stop → StopsEarly stop
early_spelling kind input Usage h = tt
early_spelling kind input (Refused fault) h = tt
early_spelling kind input StoreFull h = h
early_spelling kind input ReadFault h = tt
early_spelling kind input WriteFault h = h
early_spelling kind input Memory h = tt
early_spelling kind input Worn h = h

early_reading : {S : Type 0} (limit : ℕ) (left : S → Option (List ℕ)) (faults : S → ℕ) (old new : S) (stop : Stop) → StopsReading limit left faults old new stop → StopsEarly stop
early_reading limit left faults old new Usage h = tt
early_reading limit left faults old new (Refused fault) h = tt
early_reading limit left faults old new StoreFull h = h
early_reading limit left faults old new ReadFault h = tt
early_reading limit left faults old new WriteFault h = h
early_reading limit left faults old new Memory h = tt
early_reading limit left faults old new Worn h = h

pub spelling_count : {A : Type 0} (kind : Conditions) (s : Settings) (input : List ℕ) (r : Result A Stop) (stop : Stop) (lists : List (List Entry)) → r ≡ Err stop → lists ≡ [] → StopsSpelling kind input stop → CountsWorkers s r lists
spelling_count kind s input r stop lists is e h = inr (subst (λ q. IsErrAnd q StopsEarly) (sym is) (early_spelling kind input stop h), e)

nothing_read : (c : Command) (s : Settings) (of : Of) (lists : List (List Entry)) (stop : Stop) → lists ≡ [] → StopsEarly stop → TellsStop s of lists stop → TellsFor c s of (Err stop) lists
nothing_read Rewrite s of lists stop e early t = record { legal = legal_nothing s.rows lists e; rises = rises_nothing lists e; collects = few_nothing s lists e; each = inr (early, e); answered = tt; stopped = t }
nothing_read Drill s of lists stop e early t = record { legal = legal_nothing s.rows lists e; rises = rises_nothing lists e; collects = few_nothing s lists e; each = inr (early, e); answered = tt; stopped = t }
nothing_read Schedule s of lists stop e early t = e
nothing_read Terms s of lists stop e early t = e
nothing_read Pack s of lists stop e early t = e
nothing_read Unpack s of lists stop e early t = e
nothing_read CheckLog s of lists stop e early t = e
nothing_read CheckTrace s of lists stop e early t = e
nothing_read Outermost s of lists stop e early t = record { legal = legal_nothing s.rows lists e; rises = rises_nothing lists e; collects = few_nothing s lists e; each = inr (early, e); answered = tt; stopped = t }

pub unread : {S : Type 0} (s : Settings) (limit : ℕ) (left : S → Option (List ℕ)) (faults : S → ℕ) (old new : S) (r : Result Answer Stop) (lists : List (List Entry)) (stop : Stop) → r ≡ Err stop → lists ≡ [] → StopsReading limit left faults old new stop
    → TellsHistory s (GaveSuch s left old new) r lists
unread s limit left faults old new r lists stop is e h =
    subst (λ q. TellsHistory s (GaveSuch s left old new) q lists) (sym is)
    (nothing_read s.command s (GaveSuch s left old new) lists stop e (early_reading limit left faults old new stop h) (stops_reading s (GaveSuch s left old new) limit left faults old new lists stop e h))

-- ---- what it tells of the whole run
module _ (s : Settings) (of : Of) (lists : List (List Entry)) where
  legal_of : (c : Command) (r : Result Answer Stop) → TellsFor c s of r lists → IsLegal s.rows (chronicle lists)
  legal_of Rewrite r t = t.legal
  legal_of Drill r t = t.legal
  legal_of Schedule r t = legal_nothing s.rows lists t
  legal_of Terms r t = legal_nothing s.rows lists t
  legal_of Pack r t = legal_nothing s.rows lists t
  legal_of Unpack r t = legal_nothing s.rows lists t
  legal_of CheckLog r t = legal_nothing s.rows lists t
  legal_of CheckTrace r t = legal_nothing s.rows lists t
  legal_of Outermost r t = t.legal

  rises_of : (c : Command) (r : Result Answer Stop) → TellsFor c s of r lists → EachRises lists
  rises_of Rewrite r t = t.rises
  rises_of Drill r t = t.rises
  rises_of Schedule r t = rises_nothing lists t
  rises_of Terms r t = rises_nothing lists t
  rises_of Pack r t = rises_nothing lists t
  rises_of Unpack r t = rises_nothing lists t
  rises_of CheckLog r t = rises_nothing lists t
  rises_of CheckTrace r t = rises_nothing lists t
  rises_of Outermost r t = t.rises

  few_of : (c : Command) (r : Result Answer Stop) → TellsFor c s of r lists → CollectsFew s lists
  few_of Rewrite r t = t.collects
  few_of Drill r t = t.collects
  few_of Schedule r t = few_nothing s lists t
  few_of Terms r t = few_nothing s lists t
  few_of Pack r t = few_nothing s lists t
  few_of Unpack r t = few_nothing s lists t
  few_of CheckLog r t = few_nothing s lists t
  few_of CheckTrace r t = few_nothing s lists t
  few_of Outermost r t = t.collects

  none_of : (c : Command) (r : Result Answer Stop) → (Rewrites c → ⊥) → TellsFor c s of r lists → lists ≡ []
  none_of Rewrite r other t = absurd (other tt)
  none_of Drill r other t = absurd (other tt)
  none_of Schedule r other t = t
  none_of Terms r other t = t
  none_of Pack r other t = t
  none_of Unpack r other t = t
  none_of CheckLog r other t = t
  none_of CheckTrace r other t = t
  none_of Outermost r other t = absurd (other tt)

  terms_of : (c : Command) (r : Result Answer Stop) → Rewrites c → TellsFor c s of r lists → TellsTerms s of r lists
  terms_of Rewrite r asks t = t
  terms_of Drill r asks t = t
  terms_of Schedule r asks t = absurd asks
  terms_of Terms r asks t = absurd asks
  terms_of Pack r asks t = absurd asks
  terms_of Unpack r asks t = absurd asks
  terms_of CheckLog r asks t = absurd asks
  terms_of CheckTrace r asks t = absurd asks
  terms_of Outermost r asks t = t

  abbrev IsRefusal : ℕ → Type 0
  IsRefusal n = (n ≡ 2) ⊎ (n ≡ 3) ⊎ (n ≡ 5)

  no_entries : (stop : Stop) → TellsStop s of lists stop → IsRefusal (stop_status stop) → lists ≡ []
  no_entries Usage t h = t
  no_entries (Refused fault) t h = t
  no_entries StoreFull t h = absurd (omega (arith, h))
  no_entries ReadFault t h = t
  no_entries WriteFault t h = t
  no_entries Memory t h = absurd (omega (arith, h))
  no_entries Worn t h = absurd (omega (arith, h))

  refused_none : (c : Command) (stop : Stop) → TellsFor c s of (Err stop) lists → IsRefusal (stop_status stop) → lists ≡ []
  refused_none Rewrite stop t h = no_entries stop t.stopped h
  refused_none Drill stop t h = no_entries stop t.stopped h
  refused_none Schedule stop t h = t
  refused_none Terms stop t h = t
  refused_none Pack stop t h = t
  refused_none Unpack stop t h = t
  refused_none CheckLog stop t h = t
  refused_none CheckTrace stop t h = t
  refused_none Outermost stop t h = no_entries stop t.stopped h

  filled : (stop : Stop) → TellsStop s of lists stop → stop_status stop ≡ 4 → of (Fills lists s)
  filled Usage t h = absurd (omega (arith, h))
  filled (Refused fault) t h = absurd (omega (arith, h))
  filled StoreFull t h = t.0
  filled ReadFault t h = absurd (omega (arith, h))
  filled WriteFault t h = absurd (omega (arith, h))
  filled Memory t h = absurd (omega (arith, h))
  filled Worn t h = absurd (omega (arith, h))

  front : (stop : Stop) → TellsStop s of lists stop → (stop_status stop ≡ 4) ⊎ (stop_status stop ≡ 8) → of (NamesAllFronts lists s)
  front Usage t h = absurd (omega (arith, h))
  front (Refused fault) t h = absurd (omega (arith, h))
  front StoreFull t h = t.1
  front ReadFault t h = absurd (omega (arith, h))
  front WriteFault t h = absurd (omega (arith, h))
  front Memory t h = absurd (omega (arith, h))
  front Worn t h = t

  some : (stop : Stop) → TellsStop s of lists stop → stop_status stop ≡ 7 → (lists ≡ []) ⊎ of (NamesAllFronts lists s)
  some Usage t h = inl t
  some (Refused fault) t h = inl t
  some StoreFull t h = absurd (omega (arith, h))
  some ReadFault t h = inl t
  some WriteFault t h = inl t
  some Memory t h = t
  some Worn t h = absurd (omega (arith, h))

  some_of : (c : Command) (stop : Stop) → TellsFor c s of (Err stop) lists → stop_status stop ≡ 7 → (lists ≡ []) ⊎ of (NamesAllFronts lists s)
  some_of Rewrite stop t h = some stop t.stopped h
  some_of Drill stop t h = some stop t.stopped h
  some_of Schedule stop t h = inl t
  some_of Terms stop t h = inl t
  some_of Pack stop t h = inl t
  some_of Unpack stop t h = inl t
  some_of CheckLog stop t h = inl t
  some_of CheckTrace stop t h = inl t
  some_of Outermost stop t h = some stop t.stopped h

-- ---- how many workers it tells of
early_status : (stop : Stop) → StopsEarly stop → MayEndEarly (stop_status stop)
early_status Usage h = inl refl
early_status (Refused fault) h = inr (inl refl)
early_status StoreFull h = absurd h
early_status ReadFault h = inr (inr (inl refl))
early_status WriteFault h = absurd h
early_status Memory h = inr (inr (inr refl))
early_status Worn h = absurd h

counts_made : {A : Type 0} (s : Settings) (a : A) (lists : List (List Entry)) → CountsWorkers s (Ok a) lists → length lists ≡ s.workers
counts_made s a lists (inl e) = e
counts_made s a lists (inr h) = absurd h.0

counts_stopped : {A : Type 0} (s : Settings) (r : Result A Stop) (stop : Stop) (lists : List (List Entry)) → r ≡ Err stop → CountsWorkers s r lists → (length lists ≡ s.workers) ⊎ (MayEndEarly (stop_status stop) × (lists ≡ []))
counts_stopped s (Ok a) stop lists is h = absurd (let bad : Ok a ≡ Err stop = is in cc)
counts_stopped s (Err why) stop lists is (inl e) = inl e
counts_stopped s (Err why) stop lists is (inr h) =
    let same : why ≡ stop = cc in
    inr (subst (λ (w : Stop). MayEndEarly (stop_status w)) same (early_status why h.0), h.1)

module _ {S : Type 0} (words : List (List ℕ)) (s : Settings) (left : S → Option (List ℕ)) (old new : S) (r : Result Answer Stop) (lists : List (List Entry)) (ours : settings_of words ≡ Some s) (t : TellsHistory s (GaveSuch s left old new) r lists) where
  abbrev of_run : Of
  of_run = GaveSuch s left old new

  rewrites : AsksRewriting words → Rewrites s.command
  rewrites asks = subst (λ (u : Settings). Rewrites u.command) (same_Some asks.0 s (sym asks.1 ∙ ours)) asks.2

  pub legal_history : HasLegalHistory words lists
  legal_history = λ u e. subst (λ (v : Settings). IsLegal v.rows (chronicle lists)) (same_Some s u (sym ours ∙ e)) (legal_of s of_run lists s.command r t)

  pub all_in_turn : StandInTurn lists
  all_in_turn = in_turn lists (rises_of s of_run lists s.command r t)

  pub few_collects : HasFewCollects words lists
  few_collects = λ u e. subst (λ (v : Settings). CollectsFew v lists) (same_Some s u (sym ours ∙ e)) (few_of s of_run lists s.command r t)

  pub no_history : (AsksRewriting words → ⊥) → lists ≡ []
  no_history other = none_of s of_run lists s.command r (λ asks. other (s, ours, asks)) t

  tells : AsksRewriting words → TellsTerms s of_run r lists
  tells asks = terms_of s of_run lists s.command r (rewrites asks) t

  pub all_named : (answer : Answer) → r ≡ Ok answer → AsksRewriting words → HasSuch words left old new (NamesAll answer.workers lists)
  all_named answer is asks = (s, ours, (subst (λ (q : Result Answer Stop). TellsTerms s of_run q lists) is (tells asks)).answered)

  pub all_counted : (answer : Answer) (status : ℕ) → r ≡ Ok answer → AsksRewriting words → HasEach words status lists
  all_counted answer status is asks = λ u e.
      let count = counts_made s answer lists (subst (λ (q : Result Answer Stop). CountsWorkers s q lists) is (tells asks).each) in
      inl (subst (λ (v : Settings). length lists ≡ v.workers) (same_Some s u (sym ours ∙ e)) count)

  stopped : (stop : Stop) → r ≡ Err stop → AsksRewriting words → TellsStop s of_run lists stop
  stopped stop is asks = (subst (λ (q : Result Answer Stop). TellsTerms s of_run q lists) is (tells asks)).stopped

  stopped_for : (stop : Stop) → r ≡ Err stop → TellsFor s.command s of_run (Err stop) lists
  stopped_for stop is = subst (λ q. TellsFor s.command s of_run q lists) is t

  module _ (stop : Stop) (is : r ≡ Err stop) (status : ℕ) (ends : status ≡ stop_status stop) where
    pub all_filled : status ≡ 4 → AsksRewriting words → HasSuch words left old new (Fills lists)
    all_filled e asks = (s, ours, filled s of_run lists stop (stopped stop is asks) (sym ends ∙ e))

    pub stopped_counted : AsksRewriting words → HasEach words status lists
    stopped_counted asks = λ u e.
        subst (λ (v : Settings). (length lists ≡ v.workers) ⊎ (MayEndEarly status × (lists ≡ []))) (same_Some s u (sym ours ∙ e))
        (subst (λ n. (length lists ≡ s.workers) ⊎ (MayEndEarly n × (lists ≡ []))) (sym ends) (counts_stopped s r stop lists is (tells asks).each))

    pub all_fronts : (status ≡ 4) ⊎ (status ≡ 8) → AsksRewriting words → HasSuch words left old new (NamesAllFronts lists)
    all_fronts e asks =
        (s, ours, front s of_run lists stop (stopped stop is asks) (subst (λ n. (n ≡ 4) ⊎ (n ≡ 8)) ends e))

    pub all_some : status ≡ 7 → (lists ≡ []) ⊎ HasSuch words left old new (NamesAllFronts lists)
    all_some e = by (some_of s of_run lists s.command stop (stopped_for stop is) (sym ends ∙ e))
      where
        by : (lists ≡ []) ⊎ of_run (NamesAllFronts lists s) → (lists ≡ []) ⊎ HasSuch words left old new (NamesAllFronts lists)
        by (inl none) = inl none
        by (inr h) = inr (s, ours, h)

    pub none_refused : (status ≡ 2) ⊎ (status ≡ 3) ⊎ (status ≡ 5) → lists ≡ []
    none_refused e =
        refused_none s of_run lists s.command stop (stopped_for stop is) (subst (λ n. (n ≡ 2) ⊎ (n ≡ 3) ⊎ (n ≡ 5)) ends e)

-- a command that stops before it writes has not been written
pub not_made : {S : Type 0} (s : Settings) (left : S → Option (List ℕ)) (faults : S → ℕ) (old new : S) (stop : Stop) (status : ℕ) → StopsAnswering s left faults old new stop → status ≡ stop_status stop → IsMade status → ⊥
not_made s left faults old new Usage status h e made = omega (arith, e, made)
not_made s left faults old new (Refused fault) status h e made = omega (arith, e, made)
not_made s left faults old new StoreFull status h e made = omega (arith, e, made)
not_made s left faults old new ReadFault status h e made = omega (arith, e, made)
not_made s left faults old new WriteFault status h e made = h
not_made s left faults old new Memory status h e made = omega (arith, e, made)
not_made s left faults old new Worn status h e made = omega (arith, e, made)
