-- A syntax whose rules may have no conditions, or may have some.
use Rattle.std.specs.Prelude.{◌≡◌, ◌⊎◌, None}
use Rattle.rec_reader.specs.Parsed.{Parsed}
use Rattle.read_faults.specs.declared.fail.ReadFail.{ReadFail}
use Rattle.rec_offences.specs.Faults.{fault_of}
use Rattle.rec_check.specs.Checked.{IsFault}
use Rattle.rec_check.specs.Conditional.{first_if, IsConditional}
use Rattle.rec_answers.specs.declared.specification.Conditions.{Conditions}
use Rattle.rec_answers.specs.declared.specification.Conditions.TheVariants as conditions

-- it has none, where it may have none
abbrev pub HasNone : Conditions → Parsed → Type 0
HasNone kind syntax = kind ≡ conditions.Refused → first_if syntax ≡ None

-- it has no offence, but a condition where it may have none
pub record HasCondition (kind : Conditions) (syntax : Parsed) (fail : ReadFail) : Type 0 where
  pub faultless : fault_of syntax ≡ None
  pub refuses : kind ≡ conditions.Refused
  pub first : IsConditional (first_if syntax) fail

-- the failure tells of its first offence, or of its first condition
abbrev pub IsRefusedSyntax : Conditions → Parsed → ReadFail → Type 0
IsRefusedSyntax kind syntax fail = IsFault (fault_of syntax) fail ⊎ HasCondition kind syntax fail
