-- How reading a specification fails, where the input spells one or has a fault.
use Rattle.std.proofs.Common.{◌≡◌, ◌⊎◌, inl, inr, ℕ, List, Some, None, refl, sym, ap, ◌∙◌}
use Rattle.std.proofs.lemmas.Option.{same_Some}
use Rattle.faults.specs.declared.refusal.Refusal.{Refusal}
use Rattle.rec_check.specs.Spelled.{Specified}
use Rattle.read_faults.specs.declared.fail.ReadFail.{ReadFail}
use Rattle.read_faults.specs.declared.fail.ReadFail.TheVariants as fail
use Rattle.rec_answers.specs.Answered.{FailsSpelling}
use Rattle.rec_check.specs.Conditional.{first_if}
use Rattle.rec_answers.specs.Rewritten.{Spells, IsConditionFault, IsInputFault, MeetsConditions}
use Rattle.rec_answers.specs.declared.specification.Conditions.{Conditions}
use Rattle.rec_answers.specs.declared.specification.Conditions.TheVariants as conditions
use Rattle.rec_answers.specs.Stops.{stop_of_fail}
use Rattle.rec_answers.specs.declared.stops.Stop.TheVariants as stop
use Rattle.rec_answers.proofs.OneFault.{one_syntax, same_fault, none_of_faultless, no_fault, one_fault}

-- what spells a specification, without conditions where it may have none, has no fault
pub no_input_fault : (kind : Conditions) (input : List ℕ) (spec : Specified) (f : Refusal) → Spells input spec → MeetsConditions kind input → IsInputFault kind input f → ⊥
no_input_fault conditions.Accepted input spec f s m fault = no_fault input spec f s fault
no_input_fault conditions.Refused input spec f s m (inl fault) = no_fault input spec f s fault
no_input_fault conditions.Refused input spec f s m (inr q) = let bad : None ≡ Some f.place = sym (m q.syntax q.read) ∙ q.first in cc

-- and no input has two faults
same_place : (input : List ℕ) (f g : Refusal) → IsConditionFault input f → IsConditionFault input g → f.place ≡ g.place
same_place input f g p q = same_Some f.place g.place (sym p.first ∙ ap first_if (one_syntax input p.syntax q.syntax p.read q.read) ∙ q.first)

pub one_input_fault : (kind : Conditions) (input : List ℕ) (f g : Refusal) → IsInputFault kind input f → IsInputFault kind input g → f ≡ g
one_input_fault conditions.Accepted input f g a b = one_fault input f g a b
one_input_fault conditions.Refused input f g (inl a) (inl b) = one_fault input f g a b
one_input_fault conditions.Refused input f g (inl a) (inr q) = absurd (none_of_faultless input q.syntax f q.read q.faultless a)
one_input_fault conditions.Refused input f g (inr p) (inl b) = absurd (none_of_faultless input p.syntax g p.read p.faultless b)
one_input_fault conditions.Refused input f g (inr p) (inr q) = same_fault f g (p.kind ∙ sym q.kind) (same_place input f g p q)

-- what spells such a specification fails for want of memory alone
pub fails_for_memory : (kind : Conditions) (input : List ℕ) (e : ReadFail) (spec : Specified) → FailsSpelling kind input e → Spells input spec → MeetsConditions kind input → stop_of_fail e ≡ stop.Memory
fails_for_memory kind input (fail.Refused number offset) spec f s m = absurd (no_input_fault kind input spec _ s m f)
fails_for_memory kind input fail.Memory spec f s m = refl

-- what has a fault fails with it, memory aside
pub fails_with : (kind : Conditions) (input : List ℕ) (e : ReadFail) (fault : Refusal) → FailsSpelling kind input e → IsInputFault kind input fault → (stop_of_fail e ≡ stop.Refused fault) ⊎ (stop_of_fail e ≡ stop.Memory)
fails_with kind input (fail.Refused number offset) fault f g = inl (ap stop.Refused (one_input_fault kind input _ fault f g))
fails_with kind input fail.Memory fault f g = inr refl
