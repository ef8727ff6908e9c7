-- Rows: each is free, or has a head over the rows of its arguments.
use Rattle.std.specs.Prelude.{◌≡◌, ℕ, ◌+◌, ◌<◌, Bool, true, false, List, [], ◌∷◌, Option, Some, None, IsSome, length, slice_index_or, slice_set, replicate}
use Rattle.term_model.specs.declared.Row.{Row}
use Rattle.term_model.specs.declared.Head.{Head}

abbrev pub Slot : Type 0
Slot = Option (Head × List Row)

-- the rows, and how many arguments each has room for
pub record Slots : Type 0 where
  pub slots : List Slot
  pub widest : ℕ

-- so many free rows
abbrev pub free_slots : ℕ → ℕ → Slots
free_slots rows widest = record { slots = replicate rows None; widest = widest }

abbrev pub slot_at : Slots → Row → Slot
slot_at s r = slice_index_or s.slots r.0 None

-- the rows of the arguments
abbrev pub arguments_of : Slot → List Row
arguments_of None = []
arguments_of (Some n) = n.1

abbrev pub children : Slots → Row → List Row
children s r = arguments_of (slot_at s r)

abbrev pub with_slot : Slots → Row → Slot → Slots
with_slot s r n = record s { slots = slice_set s.slots r.0 n }

-- how many of these aren't None
abbrev pub some_count : {A : Type 0} → List (Option A) → ℕ
some_count [] = 0
some_count (None ∷ os) = some_count os
some_count (Some a ∷ os) = some_count os + 1

-- no row has this
abbrev pub HasNone : Slots → Slot → Type 0
HasNone s slot = (k : ℕ) → slice_index_or s.slots k None ≡ slot → ⊥

-- no row is free
abbrev pub IsFull : Slots → Type 0
IsFull s = (k : ℕ) → k < length s.slots → slice_index_or s.slots k None ≡ None → ⊥

abbrev pub kept_if : Bool → Slot → Slot
kept_if true n = n
kept_if false n = None

-- a row was in use, and is free now
pub record FreesRow (old new : Slots) : Type 0 where
  pub row : Row
  pub used : IsSome (slot_at old row)
  pub free : slot_at new row ≡ None

-- the rows that aren't marked are free now, and each other is as before
pub record AreSwept (marks : List Bool) (old new : Slots) : Type 0 where
  pub size : length new.slots ≡ length old.slots
  pub widest : new.widest ≡ old.widest
  pub slots : (r : Row) → slot_at new r ≡ kept_if (slice_index_or marks r.0 false) (slot_at old r)
