-- Why and where an input is refused.
use Rattle.std.specs.Prelude.{◌≡◌, ℕ, Result, Err}
use Rattle.faults.specs.declared.refusal.Refusal.{Refusal}
use Rattle.read_faults.specs.declared.fail.ReadFail.{ReadFail}
use Rattle.read_faults.specs.declared.fail.ReadFail.TheVariants.{Refused, Memory}

-- the refusal of this kind at this place, in bytes from 0
abbrev pub fault : ℕ → ℕ → Refusal
fault kind place = record { kind = kind; place = place }

-- the refusal is the one that is due; want of memory needs no cause
abbrev pub IsDue : {A : Type 0} → Result A Refusal → ReadFail → Type 0
IsDue due (Refused kind offset) = due ≡ Err (fault kind offset)
IsDue due Memory = Unit {0}
