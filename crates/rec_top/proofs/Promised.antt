-- A run keeps what is promised of it, however it ends.
use Rattle.std.proofs.Common.{◌≡◌, ◌⊎◌, inl, inr, ℕ, ◌++◌, ◌≤◌, List, [], Option, Some, None, refl, sym, ap, ap₂, subst, ◌∙◌, arith}
use Rattle.std.specs.Prelude.{Result, Ok, Err, IfOk, IfErr, OnOk, IsErrOf}
use Rattle.std.specs.Io.KnownBytes.{Appends}
use Rattle.faults.specs.declared.refusal.Refusal.{Refusal}
use Rattle.ends.specs.Bytes.{TookFront}
use Rattle.history_core.specs.declared.entry.Entry.{Entry}
use Rattle.settings.specs.Words.{AreInRange, settings_of}
use Rattle.settings.specs.declared.parts.Command.TheVariants.{Drill}
use Rattle.settings.specs.declared.parts.Settings.{Settings}
use Rattle.settings.specs.declared.parts.WordsFault.{WordsFault}
use Rattle.settings.specs.declared.parts.WordsFault.TheVariants as words_fault
use Rattle.rec_answers.specs.Written.{Output, status_for, status_of}
use Rattle.rec_answers.specs.Input.{ReadsSource, HasInput}
use Rattle.rec_answers.specs.Output.{IsOutput, IsFault, HasRows, HasNumbers}
use Rattle.rec_answers.specs.Lines.{stop_status, stop_line, status_line, TookLine}
use Rattle.rec_answers.specs.Logged.{HaveLogKeys, log_bytes, log_by, with_log}
use Rattle.rec_answers.specs.Sequence.{IsSplit}
use Rattle.rec_answers.specs.Stops.{stop_of_words}
use Rattle.rec_answers.specs.Run.{GaveOutput, HasNoFault, HasWorkers, Refuses, AsksRewriting, IsWhole, IsStatus}
use Rattle.rec_answers.specs.Answered.{IsAnswer, StopsAnswering, Answers, StopsWith}
use Rattle.rec_answers.specs.Endings.{HasStopped, HasWritten, HasBroken}
use Rattle.rec_answers.specs.declared.answers.Answer.{Answer}
use Rattle.rec_answers.specs.declared.results.Outcome.{Outcome}
use Rattle.rec_answers.specs.declared.stops.Stop.{Stop}
use Rattle.rec_answers.specs.declared.stops.Stop.TheVariants.{Refused, ReadFault, Memory}
use Rattle.rec_answers.proofs.Ending.{refused, stops_with, fault_under, told_nothing}
use Rattle.rec_answers.proofs.Inputs.{reads_under, drill_goes_on}
use Rattle.rec_answers.proofs.Judging.{upheld, refutes}
use Rattle.rec_answers.proofs.Statuses.{none_some, whole_status, made_of, status_of_whole, status_of_stop, line_of, ends_early, is_usage, but_seven, early_status, never_usage, gave_too_much, gave_too_many, read_failed, is_drill, unfailed_but, fault_of, none_of}
use Rattle.rec_answers.proofs.Logged.{bytes_with, accepted_under}
use Rattle.rec_top.specs.Histories.{GaveSuch, HasSuch, MayEndEarly, NamesAll, TellsHistory}
use Rattle.rec_top.specs.Promise.{IsPromised}
use Rattle.rec_top.proofs.Recounting.{legal_of_none, none_in_turn, few_of_none, legal_history, all_in_turn, few_collects, no_history, all_named, all_counted, all_filled, stopped_counted, all_fronts, all_some, none_refused, not_made}
use Rattle.rec_top.proofs.GoodLogs.{has_good_log}

-- ---- a run is promised

early_of : (n : ℕ) → (n ≡ 2) ⊎ (n ≡ 7) → MayEndEarly n
early_of n (inl e) = inl e
early_of n (inr e) = inr (inr (inr e))

module _ {S O E : Type 0} (words : List (List ℕ)) (left : S → Option (List ℕ)) (faults : S → ℕ) (old : S) (taken : O → Option (List ℕ)) (lost : O → ℕ) (out_old out_new : O) (told : E → Option (List ℕ)) (missed : E → ℕ) (err_old err_new : E) (r : Outcome) where
  -- words that give no settings
  pub words_promised : (fault : WordsFault) → (fault ≡ words_fault.Usage → settings_of words ≡ None) → out_new ≡ out_old
      → r.status ≡ stop_status (stop_of_words fault) → TookLine told missed err_old err_new (stop_line (stop_of_words fault)) → missed err_old ≤ missed err_new
      → r.workers ≡ [] → r.chronicle ≡ [] → IsPromised words left faults old old taken lost out_old out_new told missed err_old err_new r
  words_promised fault why silent is line later workers none =
      let two : r.status ≡ 2 → settings_of words ≡ None = λ e. why (is_usage fault (sym is ∙ e)) in
      let early : (r.status ≡ 2) ⊎ (r.status ≡ 7) = subst (λ n. (n ≡ 2) ⊎ (n ≡ 7)) (sym is) (ends_early fault) in
      record {
        usage_only_where_refused = two;
        refused_words = λ refused. early;
        unread = λ refused. refl;
        whole_only_where_out_took_the_output = λ w. absurd (omega (arith, early, w));
        upheld_where_right = λ e. absurd (omega (arith, early, e));
        refuted_only_where_wrong = λ e. absurd (omega (arith, early, e));
        refused_only_where_faulty = λ e. absurd (omega (arith, early, e));
        full_only_where_rows_are_few = λ e. absurd (omega (arith, early, e));
        worn_only_where_numbers_end = λ e. absurd (omega (arith, early, e));
        read_fault_only_where_count_rose = λ e. absurd (omega (arith, early, e));
        write_fault_only_where_count_rose = λ e. absurd (omega (arith, early, e));
        write_fault_leaves_a_front = λ e. absurd (omega (arith, early, e));
        statuses = early_status r.status early;
        drill_unread = λ asks. refl;
        drill_unrefused = λ asks. (λ e. omega (arith, early, e), λ e. omega (arith, early, e));
        reads_unfailed = λ other. refl;
        writes_unfailed = λ other. ap lost silent;
        line = λ other. subst (TookLine told missed err_old err_new) (line_of (stop_of_words fault) (λ e. other (is ∙ e)) ∙ ap status_line (sym is)) line;
        quiet = λ w. absurd (omega (arith, early, w));
        silent = λ other. silent;
        complete = λ output accepts quiet calm. but_seven words accepts.settings r.status two early accepts.accepted;
        complete_for_refused = λ fault given quiet. but_seven words given.settings r.status two early given.accepted;
        source_later = omega arith;
        out_later = (let e = ap lost silent in omega (arith, e));
        err_later = later;
        no_worker = λ other. workers;
        legal = legal_of_none words r.chronicle none;
        rises = none_in_turn r.chronicle none;
        collects = few_of_none words r.chronicle none;
        no_history = λ other. none;
        no_history_of_the_refused = λ e. none;
        each = λ asks s e. inr (early_of r.status early, none);
        built = λ made asks. absurd (omega (arith, early, made));
        fronts = λ e asks. absurd (omega (arith, early, e));
        fronts_or_nothing = λ e. inl none;
        good_log = λ made. absurd (omega (arith, early, made));
        full = λ e asks. absurd (omega (arith, early, e));
      }

  module _ (new : S) (s : Settings) (ours : settings_of words ≡ Some s) (later : faults old ≤ faults new) (undrilled : s.command ≡ Drill → new ≡ old) where
    abbrev Promised : Type 0
    Promised = IsPromised words left faults old new taken lost out_old out_new told missed err_old err_new r

    -- a command that stops
    stop_promised : (stop : Stop) → StopsAnswering s left faults old new stop → (stop ≡ ReadFault) ⊎ (faults new ≡ faults old)
        → ((input : List ℕ) (output : Output) → HasInput s left old input → IsOutput s input output → HasRows s input → HasNumbers s input → HasNoFault faults old new → stop ≡ Memory)
        → ((input : List ℕ) (fault : Refusal) → ReadsSource s.command → left old ≡ Some input → IsFault s input fault → HasNoFault faults old new → (stop ≡ Refused fault) ⊎ (stop ≡ Memory))
        → TellsHistory s (GaveSuch s left old new) (Err stop) r.chronicle → HasStopped out_old out_new told missed err_old err_new stop r → Promised
    stop_promised stop why unfailed accepted faulty t h =
        let is = h.status in
        let nm = not_made s left faults old new stop r.status why is in
        record {
          usage_only_where_refused = λ e. absurd (never_usage s left faults old new stop why (sym is ∙ e));
          refused_words = λ none. none_some (settings_of words) s none ours;
          unread = λ none. none_some (settings_of words) s none ours;
          whole_only_where_out_took_the_output = λ w. absurd (nm (made_of r.status w));
          upheld_where_right = λ e. absurd (nm (inl e));
          refuted_only_where_wrong = λ e. absurd (nm (inr (inr (inr e))));
          refused_only_where_faulty = λ e. refused words s left faults old new told missed err_old err_new stop ours why h.line (sym is ∙ e);
          full_only_where_rows_are_few = λ e. (s, ours, gave_too_much s left faults old new stop why (sym is ∙ e));
          worn_only_where_numbers_end = λ e. (s, ours, gave_too_many s left faults old new stop why (sym is ∙ e));
          read_fault_only_where_count_rose = λ e. read_failed s left faults old new stop why (sym is ∙ e);
          write_fault_only_where_count_rose = λ e. absurd (nm (inr (inr (inl e))));
          write_fault_leaves_a_front = λ e. absurd (nm (inr (inr (inl e))));
          statuses = subst IsStatus (sym is) (status_of_stop stop);
          drill_unread = λ asks. undrilled (is_drill words s ours asks);
          drill_unrefused = drill_goes_on words s left faults old new stop r.status ours why is;
          reads_unfailed = unfailed_but faults old new stop r.status is unfailed;
          writes_unfailed = λ other. ap lost h.silent;
          line = λ other. subst (TookLine told missed err_old err_new) (line_of stop (λ e. other (is ∙ e)) ∙ ap status_line (sym is)) h.line;
          quiet = λ w. absurd (nm (made_of r.status w));
          silent = λ other. h.silent;
          complete = λ output accepts quiet calm.
              let under = accepted_under words s left old output accepts ours in
              inr (is ∙ ap stop_status (accepted accepts.input output under.0 under.1 under.2 under.3 quiet));
          complete_for_refused = λ fault given quiet.
              stops_with {A = Answer} told missed err_old err_new (Err stop) stop fault r.status refl
              (faulty given.input fault (reads_under words s given.settings ours given.accepted given.reads) given.has
              (fault_under words s given.settings given.input fault ours given.accepted given.fault_is) quiet) is h.line;
          source_later = later;
          out_later = (let e = ap lost h.silent in omega (arith, e));
          err_later = h.later;
          no_worker = λ other. h.workers;
          legal = legal_history words s left old new (Err stop) r.chronicle ours t;
          rises = all_in_turn words s left old new (Err stop) r.chronicle ours t;
          collects = few_collects words s left old new (Err stop) r.chronicle ours t;
          no_history = no_history words s left old new (Err stop) r.chronicle ours t;
          no_history_of_the_refused = none_refused words s left old new (Err stop) r.chronicle ours t stop refl r.status is;
          each = stopped_counted words s left old new (Err stop) r.chronicle ours t stop refl r.status is;
          built = λ made. absurd (nm made);
          fronts = all_fronts words s left old new (Err stop) r.chronicle ours t stop refl r.status is;
          fronts_or_nothing = all_some words s left old new (Err stop) r.chronicle ours t stop refl r.status is;
          good_log = λ made. absurd (nm made);
          full = all_filled words s left old new (Err stop) r.chronicle ours t stop refl r.status is;
        }

    -- a command that answers
    module _ (answer : Answer) (log : List ℕ) (in_range : AreInRange s) (same : faults new ≡ faults old) (made : (output : Output) × GaveOutput s left old new output × IsAnswer s.workers answer output)
        (accepted : (input : List ℕ) (output : Output) → HasInput s left old input → IsOutput s input output → HasRows s input → HasNumbers s input → HasNoFault faults old new → IsAnswer s.workers answer output)
        (faultless : (input : List ℕ) (fault : Refusal) → ReadsSource s.command → left old ≡ Some input → IsFault s input fault → HasNoFault faults old new → ⊥)
        (t : TellsHistory s (GaveSuch s left old new) (Ok answer) r.chronicle) (logged : log ≡ log_by s.command s r.chronicle) (keys : HaveLogKeys s r.chronicle) where
      all_bytes : (output : Output) → answer.output.items ≡ output.bytes → answer.output.items ++ log ≡ (with_log words r.chronicle output).bytes
      all_bytes output e = bytes_with words s r.chronicle output answer.output.items log ours e logged

      shared_out : r.workers ≡ answer.workers → HasWorkers words r.workers made.0
      shared_out e = (s, ours, subst (λ ws. IsSplit s.workers ws made.0.terms) (sym e) made.2.workers)

      named : r.workers ≡ answer.workers → (asks : AsksRewriting words) → HasSuch words left old new (NamesAll r.workers r.chronicle)
      named e asks =
          subst (λ ws. HasSuch words left old new (NamesAll ws r.chronicle)) (sym e)
          (all_named words s left old new (Ok answer) r.chronicle ours t answer refl asks)

      no_fault : {P : Type 0} (fault : Refusal) → Refuses words left old fault → HasNoFault faults old new → P
      no_fault fault given quiet =
          absurd (faultless given.input fault (reads_under words s given.settings ours given.accepted given.reads) given.has
          (fault_under words s given.settings given.input fault ours given.accepted given.fault_is) quiet)

      -- whose output is written
      written_promised : HasWritten taken lost out_old out_new err_old err_new (answer.output.items ++ log) answer r → Promised
      written_promised w =
          let whole : IsWhole r.status = subst IsWhole (sym w.status) (whole_status answer.values answer.refuted) in
          let status_is : r.status ≡ status_of made.0 = w.status ∙ ap₂ status_for made.2.values made.2.refuted in
          record {
            usage_only_where_refused = λ e. absurd (omega (arith, whole, e));
            refused_words = λ none. none_some (settings_of words) s none ours;
            unread = λ none. none_some (settings_of words) s none ours;
            whole_only_where_out_took_the_output = λ e. (
              made.0,
              (s, ours, made.1),
              record { bytes = subst (Appends (taken out_old) (taken out_new)) (all_bytes made.0 made.2.bytes) w.taken_all; status_is = status_is },
              shared_out w.workers,
            );
            upheld_where_right = upheld words left old new made.0 r.status (s, ours, made.1) status_is;
            refuted_only_where_wrong = refutes words left old new made.0 r.status (s, ours, made.1) status_is;
            refused_only_where_faulty = λ e. absurd (omega (arith, whole, e));
            full_only_where_rows_are_few = λ e. absurd (omega (arith, whole, e));
            worn_only_where_numbers_end = λ e. absurd (omega (arith, whole, e));
            read_fault_only_where_count_rose = λ e. absurd (omega (arith, whole, e));
            write_fault_only_where_count_rose = λ e. absurd (omega (arith, whole, e));
            write_fault_leaves_a_front = λ e. absurd (omega (arith, whole, e));
            statuses = status_of_whole r.status whole;
            drill_unread = λ asks. undrilled (is_drill words s ours asks);
            drill_unrefused = λ asks. (λ e. omega (arith, whole, e), λ e. omega (arith, whole, e));
            reads_unfailed = λ other. same;
            writes_unfailed = λ other. w.unfailed;
            line = λ other.
                subst (λ (e : E). TookLine told missed err_old e (status_line r.status)) (sym w.quiet)
                (told_nothing told missed err_old r.status answer.values answer.refuted w.status);
            quiet = λ e. w.quiet;
            silent = λ other. absurd (other (made_of r.status whole));
            complete = λ output accepts quiet calm.
                let under = accepted_under words s left old output accepts ours in
                let a = accepted accepts.input output under.0 under.1 under.2 under.3 quiet in
                inl (record {
                  bytes = subst (Appends (taken out_old) (taken out_new)) (all_bytes output a.bytes) w.taken_all;
                  status_is = w.status ∙ ap₂ status_for a.values a.refuted;
                });
            complete_for_refused = λ fault given quiet. no_fault fault given quiet;
            source_later = later;
            out_later = (let e = w.unfailed in omega (arith, e));
            err_later = (let e = ap missed w.quiet in omega (arith, e));
            no_worker = λ other. absurd (other (made_of r.status whole));
            legal = legal_history words s left old new (Ok answer) r.chronicle ours t;
            rises = all_in_turn words s left old new (Ok answer) r.chronicle ours t;
            collects = few_collects words s left old new (Ok answer) r.chronicle ours t;
            no_history = no_history words s left old new (Ok answer) r.chronicle ours t;
            no_history_of_the_refused = λ e. absurd (omega (arith, whole, e));
            each = all_counted words s left old new (Ok answer) r.chronicle ours t answer r.status refl;
            built = λ e. named w.workers;
            fronts = λ e. absurd (omega (arith, whole, e));
            fronts_or_nothing = λ e. absurd (omega (arith, whole, e));
            good_log = λ e. has_good_log words s left old new (Ok answer) r.chronicle ours in_range t answer refl keys;
            full = λ e. absurd (omega (arith, whole, e));
          }

      -- one that a write cuts off
      broken_promised : HasBroken taken lost out_old out_new told missed err_old err_new (answer.output.items ++ log) answer r → Promised
      broken_promised b =
          let six : r.status ≡ 6 = b.status in
          record {
            usage_only_where_refused = λ e. absurd (omega (arith, six, e));
            refused_words = λ none. none_some (settings_of words) s none ours;
            unread = λ none. none_some (settings_of words) s none ours;
            whole_only_where_out_took_the_output = λ e. absurd (omega (arith, six, e));
            upheld_where_right = λ e. absurd (omega (arith, six, e));
            refuted_only_where_wrong = λ e. absurd (omega (arith, six, e));
            refused_only_where_faulty = λ e. absurd (omega (arith, six, e));
            full_only_where_rows_are_few = λ e. absurd (omega (arith, six, e));
            worn_only_where_numbers_end = λ e. absurd (omega (arith, six, e));
            read_fault_only_where_count_rose = λ e. absurd (omega (arith, six, e));
            write_fault_only_where_count_rose = λ e. b.rose;
            write_fault_leaves_a_front = λ e. (
              made.0,
              (s, ours, made.1),
              subst (TookFront (taken out_old) (taken out_new)) (all_bytes made.0 made.2.bytes) b.front,
              shared_out b.workers,
            );
            statuses = inr (inr (inr (inr (inr (inr (inl six))))));
            drill_unread = λ asks. undrilled (is_drill words s ours asks);
            drill_unrefused = λ asks. (λ e. omega (arith, six, e), λ e. omega (arith, six, e));
            reads_unfailed = λ other. same;
            writes_unfailed = λ other. absurd (other six);
            line = λ other. subst (λ n. TookLine told missed err_old err_new (status_line n)) (sym six) b.line;
            quiet = λ e. absurd (omega (arith, six, e));
            silent = λ other. absurd (other (inr (inr (inl six))));
            complete = λ output accepts quiet calm. absurd (calm b.rose);
            complete_for_refused = λ fault given quiet. no_fault fault given quiet;
            source_later = later;
            out_later = b.out_later;
            err_later = b.later;
            no_worker = λ other. absurd (other (inr (inr (inl six))));
            legal = legal_history words s left old new (Ok answer) r.chronicle ours t;
            rises = all_in_turn words s left old new (Ok answer) r.chronicle ours t;
            collects = few_collects words s left old new (Ok answer) r.chronicle ours t;
            no_history = no_history words s left old new (Ok answer) r.chronicle ours t;
            no_history_of_the_refused = λ e. absurd (omega (arith, six, e));
            each = all_counted words s left old new (Ok answer) r.chronicle ours t answer r.status refl;
            built = λ e. named b.workers;
            fronts = λ e. absurd (omega (arith, six, e));
            fronts_or_nothing = λ e. absurd (omega (arith, six, e));
            good_log = λ e. has_good_log words s left old new (Ok answer) r.chronicle ours in_range t answer refl keys;
            full = λ e. absurd (omega (arith, six, e));
          }

    -- however its command answered
    pub answer_promised : (a : Result Answer Stop) (lists : List (List Entry)) (log : Option (List ℕ)) → AreInRange s
        → IfOk a (λ answer. (output : Output) × GaveOutput s left old new output × IsAnswer s.workers answer output)
        → IfErr a (StopsAnswering s left faults old new) → IsErrOf a ReadFault ⊎ (faults new ≡ faults old)
        → ((input : List ℕ) (output : Output) → HasInput s left old input → IsOutput s input output → HasRows s input → HasNumbers s input → HasNoFault faults old new → Answers a (λ answer. IsAnswer s.workers answer output))
        → ((input : List ℕ) (fault : Refusal) → ReadsSource s.command → left old ≡ Some input → IsFault s input fault → HasNoFault faults old new → StopsWith a fault)
        → TellsHistory s (GaveSuch s left old new) a lists → OnOk a (log_bytes log ≡ log_by s.command s lists) → OnOk a (HaveLogKeys s lists)
        → r.chronicle ≡ lists
        → IfOk a (λ answer. HasWritten taken lost out_old out_new err_old err_new (answer.output.items ++ log_bytes log) answer r
        ⊎ HasBroken taken lost out_old out_new told missed err_old err_new (answer.output.items ++ log_bytes log) answer r)
        → IfErr a (λ stop. HasStopped out_old out_new told missed err_old err_new stop r) → Promised
    answer_promised (Err stop) lists log in_range made why unfailed accepted faulty t logged keys chronicle ends h =
        stop_promised stop why (fault_of (Err stop) stop refl unfailed) accepted faulty (subst (TellsHistory s (GaveSuch s left old new) (Err stop)) (sym chronicle) t) h
    answer_promised (Ok answer) lists log in_range made why unfailed accepted faulty t logged keys chronicle (inl w) h =
        written_promised answer (log_bytes log) in_range (none_of (Ok answer) answer refl unfailed) made accepted faulty (subst (TellsHistory s (GaveSuch s left old new) (Ok answer)) (sym chronicle) t)
        (subst (λ ls. log_bytes log ≡ log_by s.command s ls) (sym chronicle) logged) (subst (HaveLogKeys s) (sym chronicle) keys) w
    answer_promised (Ok answer) lists log in_range made why unfailed accepted faulty t logged keys chronicle (inr b) h =
        broken_promised answer (log_bytes log) in_range (none_of (Ok answer) answer refl unfailed) made accepted faulty (subst (TellsHistory s (GaveSuch s left old new) (Ok answer)) (sym chronicle) t)
        (subst (λ ls. log_bytes log ≡ log_by s.command s ls) (sym chronicle) logged) (subst (HaveLogKeys s) (sym chronicle) keys) b
