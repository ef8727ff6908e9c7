-- An input that is read at once, and checked.
use Rattle.std.proofs.Common.{◌≡◌, ℕ, List, inl, inr, Some, None, Result, Ok, Err, refl, ap, ◌∙◌}
use Rattle.std.specs.Prelude.{IfOk, IfErr, OnOk}
use Rattle.read_faults.specs.declared.fail.ReadFail.{ReadFail}
use Rattle.read_faults.specs.declared.fail.ReadFail.TheVariants.{Refused, Memory}
use Rattle.rec_reader.specs.Parsed.{Parsed}
use Rattle.rec_reader.specs.Reached as reached
use Rattle.rec_reader.specs.Reached.{IsReadRefusal}
use Rattle.rec_offences.specs.Faults.{fault_of}
use Rattle.rec_check.specs.declared.spec.Spec.{Spec}
use Rattle.rec_check.specs.Checked.{IsFault}
use Rattle.rec_check.specs.Conditional.{first_if}
use Rattle.faults.specs.declared.refusal.Refusal as faults
use Rattle.rec_check.specs.Run.{spelled_in}
use Rattle.rec_check.specs.Spec.{specified}
use Rattle.rec_answers.specs.Rewritten.{IsRead, Spells, IsSpecificationFault, IsInputFault, MeetsConditions}
use Rattle.rec_answers.specs.Conditioned.{HasNone, HasCondition, IsRefusedSyntax}
use Rattle.rec_answers.specs.declared.specification.Conditions.{Conditions}
use Rattle.rec_answers.specs.declared.specification.Conditions.TheVariants as conditions
use Rattle.rec_answers.specs.Answered.{FailsSpelling}
use Rattle.rec_answers.proofs.OneFault.{one_syntax}

pub is_read : (input : List ℕ) (syntax : Parsed) → syntax.bytes ≡ input → reached.Spells input syntax.specifications → IsRead input syntax
is_read input syntax b s = record { bytes = b; tokens = s.tokens; cut = s.cut; sentence = s.sentence }

pub made : (input : List ℕ) (syntax : Parsed) (r : Result Spec ReadFail) → IsRead input syntax → OnOk r (fault_of syntax ≡ None) → IfOk r (λ s. spelled_in syntax ≡ Some (specified s)) → IfOk r (λ s. Spells input (specified s))
made input syntax (Ok s) read faultless is = record { syntax = syntax; read = read; faultless = faultless; spec_is = is }
made input syntax (Err e) read faultless is = tt

-- where it may have no conditions it has none
pub meets : (kind : Conditions) (input : List ℕ) (syntax : Parsed) (r : Result Spec ReadFail) → IsRead input syntax → OnOk r (HasNone kind syntax) → OnOk r (MeetsConditions kind input)
meets kind input syntax (Err e) read none = tt
meets conditions.Accepted input syntax (Ok s) read none = tt
meets conditions.Refused input syntax (Ok s) read none = λ other also. ap first_if (one_syntax input other syntax also read) ∙ none refl

-- an offence, or what goes before it, is a fault whether or not conditions are accepted
as_fault : (kind : Conditions) (input : List ℕ) (fault : faults.Refusal) → IsSpecificationFault input fault → IsInputFault kind input fault
as_fault conditions.Accepted input fault f = f
as_fault conditions.Refused input fault f = inl f

pub read_fails : (kind : Conditions) (input : List ℕ) (e : ReadFail) → IsReadRefusal input e → FailsSpelling kind input e
read_fails kind input (Refused number offset) (inl b) = as_fault kind input _ (inl (record { kind = b.kind_is; place = b.place }))
read_fails kind input (Refused number offset) (inr t) = as_fault kind input _ (inr (inl (record { tokens = t.tokens; cut = t.cut; refusal = t.refused })))
read_fails kind input Memory r = tt

offence_fails : (kind : Conditions) (input : List ℕ) (syntax : Parsed) (e : ReadFail) → IsRead input syntax → IsFault (fault_of syntax) e → FailsSpelling kind input e
offence_fails kind input syntax (Refused number offset) read is = as_fault kind input _ (inr (inr (record { syntax = syntax; read = read; first = is })))
offence_fails kind input syntax Memory read is = tt

condition_fails : (kind : Conditions) (input : List ℕ) (syntax : Parsed) (e : ReadFail) → IsRead input syntax → HasCondition kind syntax e → FailsSpelling kind input e
condition_fails kind input syntax Memory read h = tt
condition_fails conditions.Accepted input syntax (Refused number offset) read h = absurd (let bad : conditions.Accepted ≡ conditions.Refused = h.refuses in cc)
condition_fails conditions.Refused input syntax (Refused number offset) read h =
    inr (record { syntax = syntax; read = read; faultless = h.faultless; kind = h.first.0; first = h.first.1 })

pub check_fails : (kind : Conditions) (input : List ℕ) (syntax : Parsed) (r : Result Spec ReadFail) → IsRead input syntax → IfErr r (IsRefusedSyntax kind syntax) → IfErr r (FailsSpelling kind input)
check_fails kind input syntax (Ok s) read is = tt
check_fails kind input syntax (Err e) read (inl f) = offence_fails kind input syntax e read f
check_fails kind input syntax (Err e) read (inr h) = condition_fails kind input syntax e read h
