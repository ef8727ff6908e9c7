-- The log that is asked, beside which no traces stand.
use Rattle.std.proofs.Common.{◌≡◌, ℕ, Bool, true, false, List, [], ◌∷◌, Option, Some, None, refl, ap, subst}
use Rattle.std.specs.Prelude.{◌&&◌, ◌||◌, not, if◌then◌else◌, nat_lt, option_and_then, codes}
use Rattle.std.specs.Str.{bytes_eq}
use Rattle.std.proofs.lemmas.Option.{same_Some}
use Rattle.history_core.specs.declared.entry.Entry.{Entry}
use Rattle.log_text.specs.Lines.{log_of}
use Rattle.settings.specs.Words.{settings_of, settings_of_check, settings_after, settings_told, agree, agreed, command_named, check_named}
use Rattle.settings.specs.declared.parts.Command.{Command}
use Rattle.settings.specs.declared.parts.Command.TheVariants as command
use Rattle.settings.specs.declared.parts.Settings.{Settings}
use Rattle.rec_answers.specs.Logged.{log_asked, log_by}
use Rattle.rec_answers.specs.Run.{Rewrites}

pub asked_log : (s : Settings) (lists : List (List Entry)) → s.log ≡ true → log_asked s lists ≡ log_of s.rows lists
asked_log s lists asked = ap (λ b. if b then log_of s.rows lists else []) asked

pub by_command : (c : Command) (s : Settings) (lists : List (List Entry)) → Rewrites c → log_by c s lists ≡ log_asked s lists
by_command command.Rewrite s lists asks = refl
by_command command.Drill s lists asks = refl
by_command command.Schedule s lists asks = absurd asks
by_command command.Terms s lists asks = absurd asks
by_command command.Pack s lists asks = absurd asks
by_command command.Unpack s lists asks = absurd asks
by_command command.CheckLog s lists asks = absurd asks
by_command command.CheckTrace s lists asks = absurd asks
by_command command.Outermost s lists asks = refl

-- ---- no traces stand beside a log

from_then : {A B : Type 0} (f : A → Option B) (o : Option A) (y : B) → option_and_then f o ≡ Some y → (x : A) × (f x ≡ Some y)
from_then f None y h = absurd (let bad : None ≡ Some y = h in cc)
from_then f (Some x) y h = (x, h)

agreed_agrees : (t s : Settings) → agreed t ≡ Some s → agree s ≡ true
agreed_agrees t s h = by (agree t) refl h
  where
    by : (b : Bool) → agree t ≡ b → (if b then Some t else None) ≡ Some s → agree s ≡ true
    by true e g = subst (λ (v : Settings). agree v ≡ true) (same_Some t s g) e
    by false e g = absurd cc

after_agrees : (c : Command) (rest : List (List ℕ)) (s : Settings) → settings_after c rest ≡ Some s → agree s ≡ true
after_agrees c rest s h = let a = from_then agreed (settings_told c rest) s h in agreed_agrees a.0 s a.1

check_agrees : (words : List (List ℕ)) (s : Settings) → settings_of_check words ≡ Some s → agree s ≡ true
check_agrees [] s h = absurd cc
check_agrees (what ∷ rest) s h = let a = from_then (λ c. settings_after c rest) (check_named what) s h in after_agrees a.0 rest s a.1

words_agree : (words : List (List ℕ)) (s : Settings) → settings_of words ≡ Some s → agree s ≡ true
words_agree [] s h = absurd cc
words_agree (program ∷ []) s h = absurd cc
words_agree (program ∷ word ∷ rest) s h = by (bytes_eq word (codes "check")) h
  where
    by : (b : Bool) → (if b then settings_of_check rest else option_and_then (λ c. settings_after c rest) (command_named word)) ≡ Some s → agree s ≡ true
    by true g = check_agrees rest s g
    by false g = let a = from_then (λ c. settings_after c rest) (command_named word) s g in after_agrees a.0 rest s a.1

no_trace : (traced sizes log more : Bool) → log ≡ true → not (traced && (sizes || log || more)) ≡ true → traced ≡ false
no_trace false sizes log more e f = refl
no_trace true true true more e f = absurd cc
no_trace true false true more e f = absurd cc
no_trace true sizes false more e f = absurd cc

pub untraced : (words : List (List ℕ)) (s : Settings) → settings_of words ≡ Some s → s.log ≡ true → s.trace ≡ false
untraced words s ours asked = no_trace s.trace s.sizes s.log (nat_lt 0 s.cache) asked (words_agree words s ours)
