-- How a syntax is refused.
use Rattle.std.specs.Prelude.{◌≡◌, Option, Some}
use Rattle.read_faults.specs.declared.fail.ReadFail.{ReadFail}
use Rattle.read_faults.specs.declared.fail.ReadFail.TheVariants.{Refused, Memory}
use Rattle.faults.specs.declared.refusal.Refusal.{Refusal}

-- the refusal is this fault
abbrev pub IsFault : Option Refusal → ReadFail → Type 0
IsFault fault (Refused kind offset) = fault ≡ Some (record { kind = kind; place = offset })
IsFault fault Memory = Unit {0}
