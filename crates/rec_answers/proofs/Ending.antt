-- What the end of a run says of why it stopped.
use Rattle.std.proofs.Common.{◌≡◌, ◌⊎◌, inl, inr, ℕ, ◌≤◌, List, [], Option, Some, Bool, true, false, refl, sym, ap, subst, ◌∙◌, arith}
use Rattle.std.specs.Prelude.{Result, Ok, Err}
use Rattle.settings.specs.Words.{AreInRange, settings_of}
use Rattle.settings.specs.declared.parts.Settings.{Settings}
use Rattle.faults.specs.declared.refusal.Refusal.{Refusal}
use Rattle.std.proofs.KnownBytes.{Appends-nil}
use Rattle.rec_answers.specs.Written.{status_for}
use Rattle.rec_answers.specs.Lines.{stop_status, stop_line, status_line, fault_line, TookLine}
use Rattle.std.proofs.lemmas.Option.{same_Some}
use Rattle.rec_answers.specs.Output.{IsFault}
use Rattle.rec_answers.specs.Run.{HasFault}
use Rattle.rec_answers.specs.Answered.{StopsAnswering, StopsWith}
use Rattle.rec_answers.specs.declared.stops.Stop.{Stop}
use Rattle.rec_answers.specs.declared.stops.Stop.TheVariants.{Usage, Refused, StoreFull, ReadFault, WriteFault, Memory, Worn}

pub has_seats : (s : Settings) → AreInRange s → (1 ≤ s.seats) × (s.seats ≤ 16)
has_seats s r = let h = r.seats in grind (arith, h)

pub has_workers : (s : Settings) → AreInRange s → (1 ≤ s.workers) × (s.workers ≤ 16)
has_workers s r = let h = r.workers in grind (arith, h)

-- a run that stops with status 3 has a fault
pub refused : {S E : Type 0} (words : List (List ℕ)) (s : Settings) (left : S → Option (List ℕ)) (faults : S → ℕ) (old new : S) (taken : E → Option (List ℕ)) (count : E → ℕ) (before after : E) (stop : Stop) → settings_of words ≡ Some s → StopsAnswering s left faults old new stop → TookLine taken count before after (stop_line stop) → stop_status stop ≡ 3 → (fault : Refusal) × HasFault words left old new fault × TookLine taken count before after (fault_line fault)
refused words s left faults old new taken count before after Usage e why line is = cc
refused words s left faults old new taken count before after (Refused fault) e why line is = (fault, (s, e, why), line)
refused words s left faults old new taken count before after StoreFull e why line is = cc
refused words s left faults old new taken count before after ReadFault e why line is = cc
refused words s left faults old new taken count before after WriteFault e why line is = cc
refused words s left faults old new taken count before after Memory e why line is = cc
refused words s left faults old new taken count before after Worn e why line is = cc

-- one that stops with a fault, memory aside, has status 3 and the line of the fault
pub stops_with : {A E : Type 0} (taken : E → Option (List ℕ)) (count : E → ℕ) (before after : E) (r : Result A Stop) (stop : Stop) (fault : Refusal) (status : ℕ) → r ≡ Err stop → StopsWith r fault → status ≡ stop_status stop → TookLine taken count before after (stop_line stop) → ((status ≡ 3) × TookLine taken count before after (fault_line fault)) ⊎ (status ≡ 7)
stops_with taken count before after (Ok a) stop fault status is h ends line = absurd h
stops_with taken count before after (Err other) stop fault status is h ends line =
    elim h [
      | inl e ↦ (let same : stop ≡ Refused fault = cc in inl (ends ∙ ap stop_status same, subst (λ s. TookLine taken count before after (stop_line s)) same line))
      | inr e ↦ (let same : stop ≡ Memory = cc in inr (ends ∙ ap stop_status same))
    ]

-- an input has its fault under the settings that were read
pub fault_under : (words : List (List ℕ)) (s t : Settings) (input : List ℕ) (fault : Refusal) → settings_of words ≡ Some s → settings_of words ≡ Some t → IsFault t input fault → IsFault s input fault
fault_under words s t input fault e f h = subst (λ u. IsFault u input fault) (same_Some t s (sym f ∙ e)) h

-- where the whole output was written nothing is to be told
line_for : (values refuted : Bool) → status_line (status_for values refuted) ≡ []
line_for true true = refl
line_for false true = refl
line_for true false = refl
line_for false false = refl

pub told_nothing : {E : Type 0} (taken : E → Option (List ℕ)) (count : E → ℕ) (err : E) (status : ℕ) (values refuted : Bool) → status ≡ status_for values refuted → TookLine taken count err err (status_line status)
told_nothing taken count err status values refuted is =
    let none : TookLine taken count err err [] = record { front = (0, omega arith, Appends-nil (taken err)); whole = inr (Appends-nil (taken err)) } in
    subst (λ line. TookLine taken count err err line) (sym (ap status_line is ∙ line_for values refuted)) none
