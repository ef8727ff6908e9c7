-- What a reader's step at a token comes to.
use Rattle.std.specs.Prelude.{◌≡◌, Option, Some, None, Result, Ok, Err}
use Rattle.read_faults.specs.declared.not_taken.NotTaken.{NotTaken}
use Rattle.read_faults.specs.declared.not_taken.NotTaken.TheVariants.{Unexpected, Memory}

-- a step was taken, or there is none, or there was no memory
abbrev pub Takes : {M : Type 0} → Option M → Result (Unit {0}) NotTaken → M → Type 0
Takes step (Ok _) new = step ≡ Some new
Takes step (Err Unexpected) new = step ≡ None
Takes step (Err Memory) new = Unit {0}
