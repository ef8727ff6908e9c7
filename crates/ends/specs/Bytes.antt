-- What a source gave and a sink took, where they tell it.
use Rattle.std.specs.Prelude.{ℕ, ◌≤◌, ◌<◌, List, length, take, Option, IsSomeAnd}
use Rattle.std.specs.Io.KnownBytes.{Consumes, Appends, IsAtEnd}

-- the source gave some bytes, or none
abbrev pub GaveSome : Option (List ℕ) → Option (List ℕ) → Type 0
GaveSome old new = (given : List ℕ) × Consumes old new given

-- the source gave these bytes, and then its end
pub record GaveAll (old new : Option (List ℕ)) (given : List ℕ) : Type 0 where
  pub bytes : Consumes old new given
  pub end : IsAtEnd new

-- the source gave more bytes than the limit
abbrev pub GaveMoreThan : Option (List ℕ) → Option (List ℕ) → ℕ → Type 0
GaveMoreThan old new limit = (given : List ℕ) × Consumes old new given × (limit < length given)

-- more bytes than the limit are left
abbrev pub HasMoreThan : Option (List ℕ) → ℕ → Type 0
HasMoreThan left limit = IsSomeAnd left (λ bytes. limit < length bytes)

-- the sink took a front of the bytes, and nothing else
abbrev pub TookFront : Option (List ℕ) → Option (List ℕ) → List ℕ → Type 0
TookFront old new bytes = (n : ℕ) × (n ≤ length bytes) × Appends old new (take n bytes)
