-- A schedule has one outcome, and so one output or one fault.
use Rattle.std.proofs.Common.{◌≡◌, ◌≤◌, ℕ, List, Result, Ok, Err, refl, ap, ◌∙◌}
use Rattle.lock_core.specs.Lock.{Lock, at_start}
use Rattle.lock_core.specs.Schedule.{ComesTo, lines}
use Rattle.lock_core.specs.declared.reading.LineFault.{LineFault}
use Rattle.lock_core.proofs.OneOutcome.{one_outcome}
use Rattle.faults.specs.declared.refusal.Refusal.{Refusal}
use Rattle.rec_answers.specs.Written.{Output}
use Rattle.rec_answers.specs.Output.{schedule_output, IsScheduled, IsScheduleFault}

pub same_outcome : (seats : ℕ) (input : List ℕ) (r q : Result Lock LineFault) → seats ≤ 16 → ComesTo seats (at_start seats) 1 (lines input) r → ComesTo seats (at_start seats) 1 (lines input) q → r ≡ q
same_outcome seats input r q few a b = one_outcome seats few (at_start seats) 1 (lines input) r q a b

the_lock : (r : Result Lock LineFault) (l m : Lock) → r ≡ Ok l → r ≡ Ok m → l ≡ m
the_lock r l m e f = cc

-- a schedule that comes to a lock has the output of that lock, and no fault
pub one_output : (seats : ℕ) (input : List ℕ) (lock : Lock) (output : Output) → seats ≤ 16 → ComesTo seats (at_start seats) 1 (lines input) (Ok lock) → IsScheduled seats input output → output ≡ schedule_output lock
one_output seats input lock output few comes s =
    let same = the_lock (Ok s.lock) s.lock lock refl (same_outcome seats input (Ok s.lock) (Ok lock) few s.comes comes) in
    s.output_is ∙ ap schedule_output same

pub no_fault : (seats : ℕ) (input : List ℕ) (lock : Lock) (fault : Refusal) → seats ≤ 16 → ComesTo seats (at_start seats) 1 (lines input) (Ok lock) → IsScheduleFault seats input fault → ⊥
no_fault seats input lock fault few comes s =
    let same = same_outcome seats input (Err s.at) (Ok lock) few s.comes comes in cc

-- one that has a fault has no other, and no output
pub no_output : (seats : ℕ) (input : List ℕ) (at : LineFault) (output : Output) → seats ≤ 16 → ComesTo seats (at_start seats) 1 (lines input) (Err at) → IsScheduled seats input output → ⊥
no_output seats input at output few comes s =
    let same = same_outcome seats input (Ok s.lock) (Err at) few s.comes comes in cc

the_fault : (r : Result Lock LineFault) (a b : LineFault) → r ≡ Err a → r ≡ Err b → a ≡ b
the_fault r a b e f = cc

pub one_fault : (seats : ℕ) (input : List ℕ) (at : LineFault) (fault : Refusal) → seats ≤ 16 → ComesTo seats (at_start seats) 1 (lines input) (Err at) → IsScheduleFault seats input fault → fault ≡ record { kind = at.kind; place = at.line }
one_fault seats input at fault few comes s =
    let same = the_fault (Err s.at) s.at at refl (same_outcome seats input (Err s.at) (Err at) few s.comes comes) in
    s.fault_is ∙ ap (λ (f : LineFault). record { kind = f.kind; place = f.line }) same
