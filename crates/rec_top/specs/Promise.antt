-- All that `run` promises, as one record.
use Rattle.std.specs.Prelude.{◌≡◌, ◌≢◌, ◌⊎◌, ◌≤◌, ℕ, List, [], Option, None}
use Rattle.faults.specs.Count.{Rose}
use Rattle.faults.specs.declared.refusal.Refusal.{Refusal}
use Rattle.ends.specs.Bytes.{TookFront}
use Rattle.settings.specs.Words.{settings_of}
use Rattle.rec_answers.specs.Logged.{with_log}
use Rattle.rec_answers.specs.Written.{Output}
use Rattle.rec_answers.specs.Lines.{fault_line, status_line, TookLine}
use Rattle.rec_answers.specs.Run.{HasOutput, HasFault, HasTooMuch, HasTooMany, HasNoFault, Accepts, Refuses, IsWritten, HasWorkers, AsksDrill, IsMade, IsWhole, IsStatus, IsUpheld, IsRefuted, AsksRewriting}
use Rattle.rec_answers.specs.GoodLog.{HasGoodLog}
use Rattle.rec_answers.specs.declared.results.Outcome.{Outcome}
use Rattle.rec_top.specs.Histories.{HasLegalHistory, StandInTurn, HasFewCollects, HasEach, HasSuch, NamesAll, NamesAllFronts, Fills}

-- The words; the source, with what it has left and its count of faults, before and after; the
-- output and the error output, each with what it took and its count of faults, before and after;
-- and the outcome. What each clause says is told at `run`, under the same name.
pub record IsPromised {S O E : Type 0} (words : List (List ℕ)) (left : S → Option (List ℕ))
    (faults : S → ℕ) (old new : S) (taken : O → Option (List ℕ)) (lost : O → ℕ)
    (out_old out_new : O) (told : E → Option (List ℕ)) (missed : E → ℕ) (err_old err_new : E)
    (r : Outcome) : Type 0 where
  pub usage_only_where_refused : r.status ≡ 2 → settings_of words ≡ None
  pub refused_words : settings_of words ≡ None → (r.status ≡ 2) ⊎ (r.status ≡ 7)
  pub unread : settings_of words ≡ None → new ≡ old
  pub whole_only_where_out_took_the_output : IsWhole r.status → (output : Output)
      × HasOutput words left old new output
      × IsWritten taken out_old out_new (with_log words r.chronicle output) r.status
      × HasWorkers words r.workers output
  pub upheld_where_right : r.status ≡ 0 → IsUpheld words left old new
  pub refuted_only_where_wrong : r.status ≡ 9 → IsRefuted words left old new
  pub refused_only_where_faulty : r.status ≡ 3 → (fault : Refusal)
      × HasFault words left old new fault
      × TookLine told missed err_old err_new (fault_line fault)
  pub full_only_where_rows_are_few : r.status ≡ 4 → HasTooMuch words left old new
  pub worn_only_where_numbers_end : r.status ≡ 8 → HasTooMany words left old new
  pub read_fault_only_where_count_rose : r.status ≡ 5 → Rose (faults old) (faults new)
  pub write_fault_only_where_count_rose : r.status ≡ 6 → Rose (lost out_old) (lost out_new)
  pub write_fault_leaves_a_front : r.status ≡ 6 → (output : Output)
      × HasOutput words left old new output
      × TookFront (taken out_old) (taken out_new) (with_log words r.chronicle output).bytes
      × HasWorkers words r.workers output
  pub statuses : IsStatus r.status
  pub drill_unread : AsksDrill words → new ≡ old
  pub drill_unrefused : AsksDrill words → (r.status ≢ 3) × (r.status ≢ 5)
  pub reads_unfailed : r.status ≢ 5 → faults new ≡ faults old
  pub writes_unfailed : r.status ≢ 6 → lost out_new ≡ lost out_old
  pub line : r.status ≢ 3 → TookLine told missed err_old err_new (status_line r.status)
  pub quiet : IsWhole r.status → err_new ≡ err_old
  pub silent : (IsMade r.status → ⊥) → out_new ≡ out_old
  pub complete : (output : Output) → Accepts words left old output
      → HasNoFault faults old new → HasNoFault lost out_old out_new
      → IsWritten taken out_old out_new (with_log words r.chronicle output) r.status
      ⊎ (r.status ≡ 7)
  pub complete_for_refused : (fault : Refusal) → Refuses words left old fault
      → HasNoFault faults old new
      → ((r.status ≡ 3) × TookLine told missed err_old err_new (fault_line fault)) ⊎ (r.status ≡ 7)
  pub source_later : faults old ≤ faults new
  pub out_later : lost out_old ≤ lost out_new
  pub err_later : missed err_old ≤ missed err_new
  pub no_worker : (IsMade r.status → ⊥) → r.workers ≡ []
  pub legal : HasLegalHistory words r.chronicle
  pub rises : StandInTurn r.chronicle
  pub collects : HasFewCollects words r.chronicle
  pub no_history : (AsksRewriting words → ⊥) → r.chronicle ≡ []
  pub no_history_of_the_refused : (r.status ≡ 2) ⊎ (r.status ≡ 3) ⊎ (r.status ≡ 5)
      → r.chronicle ≡ []
  pub each : AsksRewriting words → HasEach words r.status r.chronicle
  pub built : IsMade r.status → AsksRewriting words
      → HasSuch words left old new (NamesAll r.workers r.chronicle)
  pub fronts : (r.status ≡ 4) ⊎ (r.status ≡ 8) → AsksRewriting words
      → HasSuch words left old new (NamesAllFronts r.chronicle)
  pub fronts_or_nothing : r.status ≡ 7 → (r.chronicle ≡ [])
      ⊎ HasSuch words left old new (NamesAllFronts r.chronicle)
  pub good_log : IsMade r.status → HasGoodLog words left old new r.chronicle
  pub full : r.status ≡ 4 → AsksRewriting words → HasSuch words left old new (Fills r.chronicle)
