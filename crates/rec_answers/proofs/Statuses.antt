-- What the status of a run says of how it ends, and of why its command stops.
use Rattle.std.proofs.Common.{◌≡◌, ◌≢◌, ◌⊎◌, inl, inr, ℕ, Bool, true, false, List, Option, Some, None, refl, sym, ap, ◌∙◌, arith}
use Rattle.std.specs.Prelude.{Result, Ok, Err, IsErrOf}
use Rattle.std.proofs.lemmas.Option.{same_Some}
use Rattle.faults.specs.Count.{Rose}
use Rattle.settings.specs.Words.{settings_of}
use Rattle.settings.specs.declared.parts.Command.TheVariants.{Drill}
use Rattle.settings.specs.declared.parts.Settings.{Settings}
use Rattle.settings.specs.declared.parts.WordsFault.{WordsFault}
use Rattle.settings.specs.declared.parts.WordsFault.TheVariants as words_fault
use Rattle.rec_answers.specs.Written.{status_for}
use Rattle.rec_answers.specs.Lines.{stop_status, stop_line, status_line}
use Rattle.rec_answers.specs.Stops.{stop_of_words}
use Rattle.rec_answers.specs.Run.{GaveTooMuch, GaveTooMany, AsksDrill, IsMade, IsWhole, IsStatus}
use Rattle.rec_answers.specs.Answered.{StopsAnswering}
use Rattle.rec_answers.specs.declared.stops.Stop.{Stop}
use Rattle.rec_answers.specs.declared.stops.Stop.TheVariants.{Usage, Refused, StoreFull, ReadFault, WriteFault, Memory, Worn}

pub none_some : {A : Type 0} {P : Type 0} (o : Option A) (a : A) → o ≡ None → o ≡ Some a → P
none_some o a none some = absurd (let bad : None ≡ Some a = sym none ∙ some in cc)

pub whole_status : (values refuted : Bool) → IsWhole (status_for values refuted)
whole_status true true = inr (inr refl)
whole_status false true = inr (inr refl)
whole_status true false = inl refl
whole_status false false = inr (inl refl)

pub made_of : (n : ℕ) → IsWhole n → IsMade n
made_of n (inl e) = inl e
made_of n (inr (inl e)) = inr (inl e)
made_of n (inr (inr e)) = inr (inr (inr e))

pub status_of_whole : (n : ℕ) → IsWhole n → IsStatus n
status_of_whole n (inl e) = inl e
status_of_whole n (inr (inl e)) = inr (inl e)
status_of_whole n (inr (inr e)) = inr (inr (inr (inr (inr (inr (inr (inr (inr e))))))))

pub status_of_stop : (stop : Stop) → IsStatus (stop_status stop)
status_of_stop Usage = inr (inr (inl refl))
status_of_stop (Refused fault) = inr (inr (inr (inl refl)))
status_of_stop StoreFull = inr (inr (inr (inr (inl refl))))
status_of_stop ReadFault = inr (inr (inr (inr (inr (inl refl)))))
status_of_stop WriteFault = inr (inr (inr (inr (inr (inr (inl refl))))))
status_of_stop Memory = inr (inr (inr (inr (inr (inr (inr (inl refl)))))))
status_of_stop Worn = inr (inr (inr (inr (inr (inr (inr (inr (inl refl))))))))

-- the line of a stop is that of its status
pub line_of : (stop : Stop) → stop_status stop ≢ 3 → stop_line stop ≡ status_line (stop_status stop)
line_of Usage other = refl
line_of (Refused fault) other = absurd (other refl)
line_of StoreFull other = refl
line_of ReadFault other = refl
line_of WriteFault other = refl
line_of Memory other = refl
line_of Worn other = refl

-- where words give no settings, or there was no memory to read them
pub ends_early : (fault : WordsFault) → (stop_status (stop_of_words fault) ≡ 2) ⊎ (stop_status (stop_of_words fault) ≡ 7)
ends_early words_fault.Usage = inl refl
ends_early words_fault.Memory = inr refl

pub is_usage : (fault : WordsFault) → stop_status (stop_of_words fault) ≡ 2 → fault ≡ words_fault.Usage
is_usage words_fault.Usage e = refl
is_usage words_fault.Memory e = cc

pub but_seven : {P : Type 0} (words : List (List ℕ)) (s : Settings) (n : ℕ) → (n ≡ 2 → settings_of words ≡ None) → (n ≡ 2) ⊎ (n ≡ 7) → settings_of words ≡ Some s → P ⊎ (n ≡ 7)
but_seven words s n two (inl e) is = none_some (settings_of words) s (two e) is
but_seven words s n two (inr e) is = inr e

pub early_status : (n : ℕ) → (n ≡ 2) ⊎ (n ≡ 7) → IsStatus n
early_status n (inl e) = inr (inr (inl e))
early_status n (inr e) = inr (inr (inr (inr (inr (inr (inr (inl e)))))))

-- ---- why a command stops
module _ {S : Type 0} (s : Settings) (left : S → Option (List ℕ)) (faults : S → ℕ) (old new : S) where
  pub never_usage : (stop : Stop) → StopsAnswering s left faults old new stop → stop_status stop ≡ 2 → ⊥
  never_usage Usage why e = why
  never_usage (Refused fault) why e = omega (arith, e)
  never_usage StoreFull why e = omega (arith, e)
  never_usage ReadFault why e = omega (arith, e)
  never_usage WriteFault why e = omega (arith, e)
  never_usage Memory why e = omega (arith, e)
  never_usage Worn why e = omega (arith, e)

  pub gave_too_much : (stop : Stop) → StopsAnswering s left faults old new stop → stop_status stop ≡ 4 → GaveTooMuch s left old new
  gave_too_much Usage why e = absurd why
  gave_too_much (Refused fault) why e = absurd (omega (arith, e))
  gave_too_much StoreFull why e = why
  gave_too_much ReadFault why e = absurd (omega (arith, e))
  gave_too_much WriteFault why e = absurd why
  gave_too_much Memory why e = absurd (omega (arith, e))
  gave_too_much Worn why e = absurd (omega (arith, e))

  pub gave_too_many : (stop : Stop) → StopsAnswering s left faults old new stop → stop_status stop ≡ 8 → GaveTooMany s left old new
  gave_too_many Usage why e = absurd why
  gave_too_many (Refused fault) why e = absurd (omega (arith, e))
  gave_too_many StoreFull why e = absurd (omega (arith, e))
  gave_too_many ReadFault why e = absurd (omega (arith, e))
  gave_too_many WriteFault why e = absurd why
  gave_too_many Memory why e = absurd (omega (arith, e))
  gave_too_many Worn why e = why

  pub read_failed : (stop : Stop) → StopsAnswering s left faults old new stop → stop_status stop ≡ 5 → Rose (faults old) (faults new)
  read_failed Usage why e = absurd why
  read_failed (Refused fault) why e = absurd (omega (arith, e))
  read_failed StoreFull why e = absurd (omega (arith, e))
  read_failed ReadFault why e = why.1
  read_failed WriteFault why e = absurd why
  read_failed Memory why e = absurd (omega (arith, e))
  read_failed Worn why e = absurd (omega (arith, e))

pub is_drill : (words : List (List ℕ)) (s : Settings) → settings_of words ≡ Some s → AsksDrill words → s.command ≡ Drill
is_drill words s ours asks = ap (λ (u : Settings). u.command) (same_Some s asks.0 (sym ours ∙ asks.1)) ∙ asks.2

pub unfailed_but : {S : Type 0} (faults : S → ℕ) (old new : S) (stop : Stop) (status : ℕ) → status ≡ stop_status stop → (stop ≡ ReadFault) ⊎ (faults new ≡ faults old) → status ≢ 5 → faults new ≡ faults old
unfailed_but faults old new stop status is (inl e) other = absurd (other (is ∙ ap stop_status e))
unfailed_but faults old new stop status is (inr same) other = same

pub fault_of : {A P : Type 0} (a : Result A Stop) (stop : Stop) → a ≡ Err stop → IsErrOf a ReadFault ⊎ P → (stop ≡ ReadFault) ⊎ P
fault_of a stop is (inl e) = inl (let same : stop ≡ ReadFault = cc in same)
fault_of a stop is (inr p) = inr p

pub none_of : {A P : Type 0} (a : Result A Stop) (answer : A) → a ≡ Ok answer → IsErrOf a ReadFault ⊎ P → P
none_of a answer is (inl e) = absurd (let bad : Err ReadFault ≡ Ok answer = sym e ∙ is in cc)
none_of a answer is (inr p) = p
