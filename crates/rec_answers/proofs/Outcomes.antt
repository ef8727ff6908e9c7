-- What is said of an answer that may not have been made, where it is known how it ended.
use Rattle.std.proofs.Common.{◌≡◌, ◌⊎◌, sym, subst, ◌∙◌}
use Rattle.std.specs.Prelude.{Result, Ok, Err, IfOk, IfErr}
use Rattle.faults.specs.declared.refusal.Refusal.{Refusal}
use Rattle.rec_answers.specs.Answered.{Answers, StopsWith}
use Rattle.rec_answers.specs.declared.stops.Stop.{Stop}
use Rattle.rec_answers.specs.declared.stops.Stop.TheVariants.{Refused, Memory}

pub if_ok : {A : Type 0} (P : A → Type 0) (r : Result A Stop) (a : A) → r ≡ Ok a → IfOk r P → P a
if_ok P (Err s) a is h = absurd (let bad : Err s ≡ Ok a = is in cc)
if_ok P (Ok b) a is h = let same : b ≡ a = cc in subst P same h

pub if_err : {A : Type 0} (P : Stop → Type 0) (r : Result A Stop) (stop : Stop) → r ≡ Err stop → IfErr r P → P stop
if_err P (Ok a) stop is h = absurd (let bad : Ok a ≡ Err stop = is in cc)
if_err P (Err s) stop is h = let same : s ≡ stop = cc in subst P same h

pub answers_ok : {A : Type 0} (P : A → Type 0) (r : Result A Stop) (a : A) → r ≡ Ok a → Answers r P → P a
answers_ok P (Err s) a is h = absurd (let bad : Err s ≡ Ok a = is in cc)
answers_ok P (Ok b) a is h = let same : b ≡ a = cc in subst P same h

pub answers_err : {A : Type 0} (P : A → Type 0) (r : Result A Stop) (stop : Stop) → r ≡ Err stop → Answers r P → stop ≡ Memory
answers_err P (Ok a) stop is h = absurd (let bad : Ok a ≡ Err stop = is in cc)
answers_err P (Err s) stop is h = let same : s ≡ stop = cc in sym same ∙ h

pub stops_ok : {A : Type 0} (r : Result A Stop) (a : A) (fault : Refusal) → r ≡ Ok a → StopsWith r fault → ⊥
stops_ok (Err s) a fault is h = let bad : Err s ≡ Ok a = is in cc
stops_ok (Ok b) a fault is h = h

pub stops_err : {A : Type 0} (r : Result A Stop) (stop : Stop) (fault : Refusal) → r ≡ Err stop → StopsWith r fault → (stop ≡ Refused fault) ⊎ (stop ≡ Memory)
stops_err (Ok a) stop fault is h = absurd h
stops_err (Err s) stop fault is h = let same : s ≡ stop = cc in subst (λ t. (t ≡ Refused fault) ⊎ (t ≡ Memory)) same h

-- what is made where nothing but memory is wanted
pub but_memory : {A : Type 0} (P : A → Type 0) (r : Result A Stop) → IfOk r P → IfErr r (λ why. why ≡ Memory) → Answers r P
but_memory P (Ok a) made why = made
but_memory P (Err s) made why = why
