-- The log that is asked, where workers left one.
use Rattle.std.proofs.Common.{◌≡◌, ℕ, Bool, true, false, List, [], Option, Some, None, refl, subst}
use Rattle.std.specs.Prelude.{Result, Ok, Err, OnOk, is_some, if◌then◌else◌}
use Rattle.history_core.specs.declared.entry.Entry.{Entry}
use Rattle.log_text.specs.Lines.{log_of}
use Rattle.settings.specs.declared.parts.Settings.{Settings}
use Rattle.rec_answers.specs.Logged.{log_asked, IsThere, log_bytes}
use Rattle.rec_top.specs.Logged.{MayHaveLog}

none_asked : (b : Bool) (xs : List ℕ) → (b ≡ true → false ≡ true) → [] ≡ (if b then xs else [])
none_asked true xs f = absurd (let bad = f refl in cc)
none_asked false xs f = refl

one_asked : (b : Bool) (xs ys : List ℕ) → b ≡ true → ys ≡ xs → ys ≡ (if b then xs else [])
one_asked true xs ys e is = is
one_asked false xs ys e is = absurd cc

log_is : (s : Settings) (lists : List (List Entry)) (log : Option (List ℕ)) → MayHaveLog s lists log → IsThere s (is_some log) → log_bytes log ≡ log_asked s lists
log_is s lists None may there = none_asked s.log (log_of s.rows lists) there
log_is s lists (Some text) may there = one_asked s.log (log_of s.rows lists) text may.0 may.1

pub log_where : {A E : Type 0} (s : Settings) (lists : List (List Entry)) (log : Option (List ℕ)) (there : Bool) (r : Result A E) → there ≡ is_some log
    → MayHaveLog s lists log → OnOk r (IsThere s there) → OnOk r (log_bytes log ≡ log_asked s lists)
log_where s lists log there (Ok a) same may h = log_is s lists log may (subst (IsThere s) same h)
log_where s lists log there (Err e) same may h = tt
