-- What is written with a log is a good log.
use Rattle.std.proofs.Common.{◌≡◌, ◌⊎◌, inl, inr, ℕ, ◌≤◌, Bool, true, false, List, [], ◌++◌, length, Option, Some, None, sym, ap, subst, ◌∙◌, arith}
use Rattle.std.specs.Prelude.{◌&&◌, Result, Ok, Err, OnOk, IfSome, is_some, nat_le}
use Rattle.std.specs.List.{AllByRecursion}
use Rattle.std.proofs.lemmas.Option.{same_Some}
use Rattle.std.proofs.lemmas.Bool.Decides.{nat_tests}
use Rattle.term_model.proofs.Order.{both_hold}
use Rattle.history_core.specs.declared.entry.Entry.{Entry}
use Rattle.history_core.specs.Chronicle.{chronicle, IsLegal, IsGood}
use Rattle.log_text.specs.Keys.{HaveKeys}
use Rattle.log_text.specs.Lines.{log_of}
use Rattle.log_check.specs.Verdict.{lists_of}
use Rattle.log_laws.specs.Good.{NamesToldTrees, MayHaveLog}
use Rattle.log_laws.specs.Whole.{lined, IsLogOf, MayTellAll, StandsBeside}
use Rattle.log_laws.proofs.Good.{good_told}
use Rattle.log_laws.proofs.Whole.{logs_read_back, good_are_legal}
use Rattle.settings.specs.Words.{settings_of, AreInRange}
use Rattle.settings.specs.declared.parts.Settings.{Settings}
use Rattle.term_lines.proofs.Lists.{within}
use Rattle.work_order.specs.Lined.{drawn_by}
use Rattle.work_order.specs.Works.{strategy_of, built_of, remembers_results}
use Rattle.shared_work.specs.Sharing.{EachRises, named_by}
use Rattle.rec_check.specs.Spelled.{Specified}
use Rattle.rec_answers.specs.GoodLog.{IsGoodLogOf, HasGoodLog}
use Rattle.rec_top.specs.Histories.{GaveSuch, MayEndEarly, NamesAll, TellsHistory}
use Rattle.rec_answers.specs.Logged.{HaveLogKeys, IsThere, log_under, with_log}
use Rattle.rec_answers.specs.Run.{HasOutput, Rewrites, AsksRewriting}
use Rattle.rec_answers.specs.Output.{IsOutputOf}
use Rattle.rec_answers.specs.Written.{Output}
use Rattle.rec_answers.specs.declared.answers.Answer.{Answer}
use Rattle.rec_answers.specs.declared.stops.Stop.{Stop}
use Rattle.rec_top.proofs.Recounting.{legal_history, all_in_turn, all_named, all_counted}
use Rattle.rec_answers.proofs.ToldHeads.{IsToldSpec, spec_told}
use Rattle.rec_answers.proofs.BesideLogs.{StandBeside, output_beside}
use Rattle.rec_answers.proofs.ToldBuilt.{drawn_told, all_built, some_told}
use Rattle.rec_answers.proofs.Untraced.{asked_log, by_command, untraced}

-- ---- the keys, where the log is there

keys_there : {V : Type 0} (s : Settings) (lists : List (List Entry)) (log : Option V) → IsThere s (is_some log) → IfSome log (λ _. AllByRecursion HaveKeys lists) → HaveLogKeys s lists
keys_there s lists None there keys asked = absurd (let bad : false ≡ true = there asked in cc)
keys_there s lists (Some text) there keys asked = keys

pub keys_where : {A E V : Type 0} (s : Settings) (lists : List (List Entry)) (log : Option V) (there : Bool) (r : Result A E) → there ≡ is_some log
    → IfSome log (λ _. AllByRecursion HaveKeys lists) → OnOk r (IsThere s there) → OnOk r (HaveLogKeys s lists)
keys_where s lists log there (Ok a) same keys h = keys_there s lists log (subst (IsThere s) same h) keys
keys_where s lists log there (Err e) same keys h = tt

-- a history without entries has none that are too large
pub none_have_keys : {A E : Type 0} (s : Settings) (lists : List (List Entry)) (r : Result A E) → lists ≡ [] → OnOk r (HaveLogKeys s lists)
none_have_keys s lists (Ok a) e = subst (HaveLogKeys s) (sym e) (λ asked. tt)
none_have_keys s lists (Err x) e = tt

-- ---- and so is their log

range_of : (low n high : ℕ) → (nat_le low n && nat_le n high) ≡ true → (low ≤ n) × (n ≤ high)
range_of low n high e =
    let both = both_hold (nat_le low n) (nat_le n high) e in
    (let a = both.0 in grind (arith, nat_tests), let b = both.1 in grind (arith, nat_tests))

module _ (s : Settings) (spec : Specified) (workers : List ℕ) (lists : List (List Entry)) (range : AreInRange s) (legal : IsLegal s.rows (chronicle lists)) (rises : EachRises lists)
    (count : length lists ≡ s.workers) (keys : AllByRecursion HaveKeys lists) (names : NamesAll workers lists s spec) (told : IsToldSpec spec) where
  has_log : MayHaveLog s.rows lists
  has_log =
      let rows = range_of 1 s.rows 262144 range.rows in
      let callers = range_of 1 s.workers 16 range.workers in
      let low : 1 ≤ s.workers = callers.0 in
      let high : s.workers ≤ 16 = callers.1 in
      record { has_rows = rows; has_callers = (omega (arith, count, low), omega (arith, count, high)) }

  names_told : NamesToldTrees lists
  names_told caller less =
      let drawn = drawn_by caller workers spec.terms in
      let few = within spec.rules s.fuel s.depth (strategy_of s.command) (remembers_results s spec.rules) drawn [] (named_by lists caller) (names caller (omega (arith, count, less))) in
      some_told (built_of s spec.rules drawn) (named_by lists caller)
      (all_built spec.rules told.rules s.fuel s.depth (strategy_of s.command) drawn (drawn_told caller workers spec.terms told.terms)) few

  is_good : IsGood s.rows lists
  is_good = record { rise = rises; legal = legal }

  may_tell_all : MayTellAll s.rows lists
  may_tell_all = good_told s.rows lists has_log is_good keys names_told

  log_is_good : (beside : List (List ℕ)) → AllByRecursion StandsBeside beside → IsGoodLogOf s.rows lists (lined beside ++ log_of s.rows lists)
  log_is_good beside stand =
      let read : IsLogOf s.rows lists (lined beside ++ log_of s.rows lists) = logs_read_back s.rows lists may_tell_all beside stand in
      let good : IsGood read.log.rows (lists_of read.log) = subst (λ ls. IsGood read.log.rows ls) (sym read.lists_are) (subst (λ n. IsGood n lists) (sym read.rows_are) is_good) in
      record {
        read = read;
        good = record { log = read.log; log_is = read.log_is; good = good };
        legal = good_are_legal s.rows lists may_tell_all beside stand is_good;
      }

  -- of an output with its log
  output_is_good : (bytes : List ℕ) → StandBeside bytes → IsGoodLogOf s.rows lists (bytes ++ log_of s.rows lists)
  output_is_good bytes b = subst (λ (xs : List ℕ). IsGoodLogOf s.rows lists (xs ++ log_of s.rows lists)) (sym b.is) (log_is_good b.texts b.stand)

-- ---- of a run that made an output
module _ {S : Type 0} (words : List (List ℕ)) (s : Settings) (left : S → Option (List ℕ)) (old new : S) (r : Result Answer Stop) (lists : List (List Entry)) (ours : settings_of words ≡ Some s) (range : AreInRange s)
    (t : TellsHistory s (GaveSuch s left old new) r lists) (answer : Answer) (is : r ≡ Ok answer) (keys : HaveLogKeys s lists) where
  counted : AsksRewriting words → length lists ≡ s.workers
  counted asks = by (all_counted words s left old new r lists ours t answer 0 is asks s ours)
    where
      by : (length lists ≡ s.workers) ⊎ (MayEndEarly 0 × (lists ≡ [])) → length lists ≡ s.workers
      by (inl e) = e
      by (inr early) = let h = early.0 in absurd (omega (arith, h))

  log_written : Rewrites s.command → s.log ≡ true → log_under (settings_of words) lists ≡ log_of s.rows lists
  log_written asks asked = ap (λ (g : Option Settings). log_under g lists) ours ∙ (by_command s.command s lists asks ∙ asked_log s lists asked)

  told_of : (bytes : List ℕ) → AsksRewriting words → s.log ≡ true → StandBeside bytes → IsGoodLogOf s.rows lists (bytes ++ log_of s.rows lists)
  told_of bytes asks asked beside =
      let such = all_named words s left old new r lists ours t answer is asks in
      let here : such.0 ≡ s = same_Some such.0 s (sym such.1 ∙ ours) in
      let gave = subst (λ (v : Settings). GaveSuch v left old new (NamesAll answer.workers lists v)) here such.2 in
      let spelled = gave.2.1 in
      output_is_good s gave.2.0 answer.workers lists range (legal_history words s left old new r lists ours t s ours)
      (λ caller. (all_in_turn words s left old new r lists ours t caller).1) (counted asks) (keys asked) gave.2.2 (spec_told spelled.syntax gave.2.0 spelled.spec_is) bytes beside

  with_its_log : Rewrites s.command → s.log ≡ true → (output : Output) → HasOutput words left old new output → IsGoodLogOf s.rows lists (with_log words lists output).bytes
  with_its_log asks asked output has =
      let same : has.0 ≡ s = same_Some has.0 s (sym has.1 ∙ ours) in
      let made = has.2.output_is.output_is in
      let out : IsOutputOf s.command s has.2.input output = subst (λ (v : Settings). IsOutputOf v.command v has.2.input output) same made in
      subst (λ (log : List ℕ). IsGoodLogOf s.rows lists (output.bytes ++ log)) (sym (log_written asks asked))
      (told_of output.bytes (s, ours, asks) asked (output_beside s.command s has.2.input output asks (untraced words s ours asked) out))

  pub has_good_log : HasGoodLog words left old new lists
  has_good_log u accepted asks asked =
      let same : s ≡ u = same_Some s u (sym ours ∙ accepted) in
      subst (λ (v : Settings). Rewrites v.command → v.log ≡ true → (output : Output) → HasOutput words left old new output → IsGoodLogOf v.rows lists (with_log words lists output).bytes) same with_its_log asks asked
