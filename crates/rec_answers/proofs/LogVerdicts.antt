-- Checking a log: what is answered, or why it stops, is what the definitions say of the input.
use Rattle.std.proofs.Common.{◌≡◌, ◌⊎◌, inl, inr, ℕ, List, true, false, Result, Ok, Err, refl, sym, ap, ap₂, subst, ◌∙◌}
use Rattle.faults.specs.declared.refusal.Refusal.{Refusal}
use Rattle.read_faults.specs.declared.fail.ReadFail.{ReadFail}
use Rattle.read_faults.specs.declared.fail.ReadFail.TheVariants as fail
use Rattle.log_check.specs.Log.{Log, log_in}
use Rattle.log_check.specs.Verdict.{IsFound, IsRefused}
use Rattle.log_check.specs.declared.verdict.LogVerdict.{LogVerdict}
use Rattle.log_check.specs.declared.verdict.LogVerdict.TheVariants.{Legal, Illegal}
use Rattle.log_check.proofs.OneVerdict.{found_of, one_verdict, illegal_is_bad}
use Rattle.rec_answers.specs.Written.{Output}
use Rattle.rec_answers.specs.Checked.{verdict_output, IsLogChecked, IsLogFault, IsGoodLog, IsBadLog}
use Rattle.rec_answers.specs.Answered.{IsAnswer, StopsChecking}
use Rattle.rec_answers.specs.Stops.{stop_of_fail}
use Rattle.rec_answers.specs.declared.answers.Answer.{Answer}
use Rattle.rec_answers.specs.declared.stops.Stop.TheVariants as stop

-- ---- an input that is refused
log_stops : (input : List ℕ) (r : Result Log ℕ) (f : ReadFail) → log_in input ≡ r → IsRefused r f → StopsChecking input (stop_of_fail f)
log_stops input (Ok log) (fail.Refused kind place) e h = absurd h
log_stops input (Err n) (fail.Refused kind place) e h =
    record { at = n; none = e; fault_is = ap₂ (λ (k p : ℕ). let f : Refusal = record { kind = k; place = p } in f) h.0 h.1 }
log_stops input (Ok log) fail.Memory e h = tt
log_stops input (Err n) fail.Memory e h = tt

pub check_stops : (input : List ℕ) (f : ReadFail) → IsRefused (log_in input) f → StopsChecking input (stop_of_fail f)
check_stops input f h = log_stops input (log_in input) f refl h

never : (r : Result Log ℕ) (v : LogVerdict) (n : ℕ) → IsFound r v → r ≡ Err n → ⊥
never (Ok log) v n f e = cc
never (Err m) v n f e = f

-- what has a verdict has no fault
pub no_log_fault : (input : List ℕ) (v : LogVerdict) (fault : Refusal) → IsFound (log_in input) v → IsLogFault input fault → ⊥
no_log_fault input v fault f bad = never (log_in input) v bad.at f bad.none

-- and stops for want of memory alone
pub checked_or_memory : (input : List ℕ) (f : ReadFail) (output : Output) → IsRefused (log_in input) f → IsLogChecked input output → stop_of_fail f ≡ stop.Memory
checked_or_memory input (fail.Refused kind place) output h o =
    absurd (no_log_fault input o.verdict (record { kind = kind; place = place }) o.found (check_stops input (fail.Refused kind place) h))
checked_or_memory input fail.Memory output h o = refl

-- what has a fault stops with it, memory aside
same_line : (r : Result Log ℕ) (m n : ℕ) → r ≡ Err m → r ≡ Err n → m ≡ n
same_line (Ok log) m n e f = cc
same_line (Err k) m n e f = cc

pub log_fault_or_memory : (input : List ℕ) (f : ReadFail) (fault : Refusal) → IsRefused (log_in input) f → IsLogFault input fault → (stop_of_fail f ≡ stop.Refused fault) ⊎ (stop_of_fail f ≡ stop.Memory)
log_fault_or_memory input (fail.Refused kind place) fault h bad =
    let given : IsLogFault input (record { kind = kind; place = place }) = check_stops input (fail.Refused kind place) h in
    let lines : given.at ≡ bad.at = same_line (log_in input) given.at bad.at given.none bad.none in
    inl (ap stop.Refused (given.fault_is ∙ ap (λ (n : ℕ). let f : Refusal = record { kind = 15; place = n } in f) lines ∙ sym bad.fault_is))
log_fault_or_memory input fail.Memory fault h bad = inr refl

-- ---- one that is a log
pub verdict_answer : (input : List ℕ) (v : LogVerdict) (count : ℕ) (answer : Answer) (output : Output) → IsFound (log_in input) v → IsAnswer count answer (verdict_output v) → IsLogChecked input output → IsAnswer count answer output
verdict_answer input v count answer output f a o =
    subst (IsAnswer count answer) (ap verdict_output (one_verdict input v o.verdict f o.found) ∙ sym o.output_is) a

pub good_log : (input : List ℕ) (output : Output) → IsLogChecked input output → output.refuted ≡ false → IsGoodLog input
good_log input output o is = go o.verdict o.found (sym is ∙ ap (λ (x : Output). x.refuted) o.output_is)
  where
    go : (v : LogVerdict) → IsFound (log_in input) v → false ≡ (verdict_output v).refuted → IsGoodLog input
    go (Legal m) f e = let p = found_of input (Legal m) f in record { log = p.log; log_is = p.log_is; good = p.verdict.0 }
    go (Illegal n) f e = cc

pub bad_log : (input : List ℕ) (output : Output) → IsLogChecked input output → output.refuted ≡ true → IsBadLog input
bad_log input output o is = go o.verdict o.found (sym is ∙ ap (λ (x : Output). x.refuted) o.output_is)
  where
    go : (v : LogVerdict) → IsFound (log_in input) v → true ≡ (verdict_output v).refuted → IsBadLog input
    go (Legal m) f e = cc
    go (Illegal n) f e = let p = found_of input (Illegal n) f in record { log = p.log; log_is = p.log_is; bad = illegal_is_bad input n p.log p.log_is p.verdict }
