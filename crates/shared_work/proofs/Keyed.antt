-- The keys of the chronicle are those of a log where those of each pass are.
use Rattle.std.proofs.Common.{◌≡◌, ◌∙◌, ℕ, zero, suc, List, [], ◌∷◌, get_or, map, refl, sym, subst, arith}
use Rattle.std.specs.Prelude.{All, Some, None, Option, IfSome, Result, Bool, true, false, if◌then◌else◌, slice_get}
use Rattle.std.specs.List.{AllByRecursion, list_all}
use Rattle.std.proofs.lemmas.Option.{same_Some, slice_get-get_or}
use Rattle.std.proofs.lemmas.List.Elements.{All-tail}
use Rattle.term_model.specs.Tree.{Tree}
use Rattle.rewrite_model.specs.Rule.{Rule}
use Rattle.settings.specs.declared.parts.Settings.{Settings}
use Rattle.history_core.specs.declared.entry.Entry.{Entry}
use Rattle.history_core.specs.Chronicle.{entries_of}
use Rattle.log_text.specs.Keys.{HaveKeys}
use Rattle.node_rows.specs.declared.store.Store.{Store}
use Rattle.node_rows.specs.declared.store.Pass.{Pass}
use Rattle.node_rows.specs.Told.{Tells, view_of}
use Rattle.worker_crew.specs.declared.fault.AllFault.{AllFault}
use Rattle.worker_crew.specs.declared.lines.Lines.{Lines}
use Rattle.work_desks.specs.Keys.{HasKeys, has_log_key, told_log}
use Rattle.work_desks.proofs.Logging.{entries_of_pass}
use Rattle.shared_work.specs.Running.{HasRun}
use Rattle.shared_work.specs.Sharing.{EachRises}
use Rattle.shared_work.proofs.Closing.{worker}

module _ (s : Settings) (rules : List Rule) (terms : List Tree) (store : Store) (lines : Result Lines AllFault) (ps : List Pass) (run : HasRun s rules terms store lines ps) where
  -- the passes that came back tell what they noted
  pub are_told : All Tells ps
  are_told k d lt =
      let p = get_or ps k d in
      let at : slice_get ps k ≡ Some p = slice_get-get_or ps k d lt in
      let one = run.new.count in
      let two = run.same.0 in
      let three = run.back.count in
      let w = worker s rules terms store lines ps run k (omega (arith, one, two, three, lt)) in
      subst Tells (same_Some w.pass p (sym w.at_pass ∙ at)) w.back.told

-- the keys of lists that rise, and are those of passes
each_list : (lists : List (List Entry)) → ((caller : ℕ) → HaveKeys (entries_of lists caller)) → AllByRecursion HaveKeys lists
each_list [] h = tt
each_list (es ∷ lists) h = (h 0, each_list lists (λ caller. h (suc caller)))

lists_told : (ps : List Pass) (lists : List (List Entry)) → map entries_of_pass ps ≡ lists → All (λ p. HasKeys (view_of p).store.entries) ps → (caller : ℕ) → HasKeys (entries_of lists caller)
lists_told ps lists same h caller = subst (λ ls. HasKeys (entries_of ls caller)) same (go ps h caller)
  where
    go : (qs : List Pass) → All (λ p. HasKeys (view_of p).store.entries) qs → (k : ℕ) → HasKeys (entries_of (map entries_of_pass qs) k)
    go [] h k = λ rise. tt
    go (q ∷ qs) h zero = h 0 q (omega arith)
    go (q ∷ qs) h (suc k) = go qs (All-tail (λ p. HasKeys (view_of p).store.entries) q qs h) k

pub log_keys : (log : Option (List ℕ)) (ps : List Pass) (lists : List (List Entry)) → map entries_of_pass ps ≡ lists → EachRises lists
    → IfSome log (λ _. All (λ p. HasKeys (view_of p).store.entries) ps) → IfSome log (λ _. AllByRecursion HaveKeys lists)
log_keys None ps lists same rises h = tt
log_keys (Some text) ps lists same rises h = each_list lists (λ caller. lists_told ps lists same h caller (rises caller))

-- a log that was there before is the log still
pub still_told : (P : List ℕ → Type 0) (old new : Option (List ℕ)) → IfSome new (λ text. old ≡ Some text) → IfSome old P → IfSome new P
still_told P old None same h = tt
still_told P old (Some text) same h = subst (λ o. IfSome o P) same h

-- a log that is told was there before
pub told_before : {A : Type 0} (log new : Option A) (ps : List Pass) → new ≡ told_log log ps → IfSome new (λ text. log ≡ Some text)
told_before {A} log new ps e = subst (λ o. IfSome o (λ text. log ≡ Some text)) (sym e) (by (list_all has_log_key ps) log)
  where
    by : (b : Bool) (log : Option A) → IfSome (if b then log else None) (λ text. log ≡ Some text)
    by true None = tt
    by true (Some text) = refl
    by false log = tt
