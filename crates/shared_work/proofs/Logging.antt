-- The log that desks wrote is that of the chronicle.
use Rattle.std.proofs.Common.{◌≡◌, ℕ, List, [], ◌++◌, get_or, length, map, sym, ap, subst, ◌∙◌, arith}
use Rattle.std.specs.Prelude.{true, All, Some, None, Option, IfSome, unwrap_or, Result}
use Rattle.std.proofs.lemmas.Option.{same_Some, slice_get_within}
use Rattle.term_model.specs.Tree.{Tree}
use Rattle.rewrite_model.specs.Rule.{Rule}
use Rattle.settings.specs.declared.parts.Settings.{Settings}
use Rattle.history_core.specs.declared.entry.Entry.{Entry}
use Rattle.log_text.specs.Lines.{header_text, callers_from, end_text, log_of}
use Rattle.node_rows.specs.declared.store.Store.{Store}
use Rattle.node_rows.specs.declared.store.Pass.{Pass}
use Rattle.node_rows.specs.Told.{HasEntries}
use Rattle.worker_crew.specs.declared.fault.AllFault.{AllFault}
use Rattle.worker_crew.specs.declared.lines.Lines.{Lines}
use Rattle.shared_desk.specs.Code.{Contents}
use Rattle.work_desks.specs.NewDesks.{AreBack}
use Rattle.work_desks.specs.Texts.{AddsText}
use Rattle.work_desks.proofs.Logging.{entries_of_desk, entries_of_pass, same_lists, long_map, back_entries}
use Rattle.shared_work.specs.Running.{HasRun, IsAskedLog, entries_of}
use Rattle.shared_work.proofs.Closing.{worker, all_got}

-- where desks give a log, behind the first line and before the last one it is that of the passes
-- that they gave back
pub logged : (s : Settings) (old new : Option (List ℕ)) (head : List ℕ) (callers : ℕ) (desks : List Contents) (passes : List Pass) → s.log ≡ true → head ≡ header_text s.rows callers
    → callers ≡ length desks → AreBack desks passes → IfSome old (λ text. text ≡ head ++ callers_from 0 (map entries_of_desk desks)) → AddsText old new end_text
    → IfSome new (λ text. IsAskedLog s (entries_of passes) text)
logged s old None head callers desks passes asked first count back told adds = tt
logged s None (Some text) head callers desks passes asked first count back told adds = absurd (cc)
logged s (Some before) (Some text) head callers desks passes asked first count back told adds =
    let lists = map entries_of_desk desks in
    let is : text ≡ before ++ end_text = ap (λ (o : Option (List ℕ)). unwrap_or o []) adds in
    let number : callers ≡ length lists = count ∙ sym (long_map entries_of_desk desks) in
    let begins : head ≡ header_text s.rows (length lists) = first ∙ ap (header_text s.rows) number in
    (asked, is ∙ (ap (λ (ts : List ℕ). ts ++ end_text) (told ∙ ap (λ (ts : List ℕ). ts ++ callers_from 0 lists) begins) ∙ ap (log_of s.rows) (sym (back_entries desks passes back))))

-- the entries of the passes are the lists of the chronicle
pub lists_are : (s : Settings) (rules : List Rule) (terms : List Tree) (store : Store) (lines : Result Lines AllFault) (ps : List Pass) (run : HasRun s rules terms store lines ps)
    (lists : List (List Entry)) → length lists ≡ store.sizes.seats → All (HasEntries lists) ps → map entries_of_pass ps ≡ lists
lists_are s rules terms store lines ps run lists count has =
    let one = run.new.count in
    let two = run.same.0 in
    let three = run.back.count in
    same_lists entries_of_pass ps lists (omega (arith, one, two, three, count))
    (λ k p at.
    let lt = slice_get_within ps k p at in
    let w = worker s rules terms store lines ps run k (omega (arith, lt, one, two, three)) in
    let same : w.pass ≡ p = same_Some w.pass p (sym w.at_pass ∙ at) in
    ap (λ (j : ℕ). get_or lists j []) (sym w.number ∙ ap (λ (q : Pass). q.seat.number) same) ∙ all_got (HasEntries lists) ps k p has at)

pub log_told : (s : Settings) (log : Option (List ℕ)) (lists news : List (List Entry)) → lists ≡ news → IfSome log (IsAskedLog s lists) → IfSome log (IsAskedLog s news)
log_told s None lists news same h = tt
log_told s (Some text) lists news same h = subst (λ ls. IsAskedLog s ls text) same h
