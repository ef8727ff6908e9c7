-- Rows in flat lists: what each one has, and the arguments of those that have more than two, each
-- with as many places as the widest. The last rows, which were never in use, have no entry.
use Rattle.std.specs.Prelude.{◌≡◌, ℕ, ◌+◌, ◌-◌, ◌*◌, ◌^◌, ◌<◌, ◌≤◌, Bool, true, false, List, [], ◌∷◌, ◌++◌, Some, None, length, take, drop, replicate, slice_index_or, if◌then◌else◌, nat_le}
use Rattle.term_model.specs.declared.Row.{Row}
use Rattle.term_model.specs.declared.Head.{Head}
use Rattle.term_model.specs.declared.Head.TheVariants.{Nil}
use Rattle.plain_store.specs.declared.table.Entry.{Entry}
use Rattle.plain_store.specs.Pairs.{filled, no_row}
use Rattle.plain_store.specs.Slots.{Slot}

abbrev pub slot_if : Bool → Head → List Row → Slot
slot_if false h rows = None
slot_if true h rows = Some (h, rows)

-- the arguments: at most two stand in the pair, and more come first in these places
abbrev pub rows_of : Entry → List Row → List Row
rows_of e places = take e.count (if nat_le e.count 2 then e.pair else places)

-- a row whose arguments come first in these places, if they are more than two
abbrev pub slot_of : Entry → List Row → Slot
slot_of e places = slot_if e.used e.head (rows_of e places)

abbrev pub slots_of : ℕ → List Entry → List Row → List Slot
slots_of widest [] places = []
slots_of widest (e ∷ entries) places =
    slot_of e places ∷ slots_of widest entries (drop widest places)

-- so many rows, of which those behind the entries are free
abbrev pub all_slots : ℕ → ℕ → List Entry → List Row → List Slot
all_slots widest rows entries places =
    slots_of widest entries places ++ replicate (rows - length entries) None

-- The entry of the row at k: if it has more than two arguments, there are places for them; the rest
-- of a pair is filled up; and a free row has no arguments, and its pair isn't that of no arguments.
pub record IsEntry (widest size k : ℕ) (e : Entry) : Type 0 where
  pub two : length e.pair ≡ 2
  pub pair : e.used ≡ true → e.count ≤ 2 → e.pair ≡ filled (take e.count e.pair)
  pub fits : e.count ≤ widest
  pub places : 2 < e.count → k * widest + widest ≤ size
  pub free : e.used ≡ false → e.count ≡ 0
  pub other : e.used ≡ false → e.pair ≡ filled [] → ⊥

-- the entry of each row is so
abbrev pub HasEntries : ℕ → ℕ → List Entry → Type 0
HasEntries widest size entries =
    (k : ℕ) (d : Entry) → k < length entries → IsEntry widest size k (slice_index_or entries k d)

-- what stands in the pair of a free row
abbrev pub other_row : Row
other_row = record { 0 = 2 ^ 32 - 1 }

-- the entry of a free row
abbrev pub free_entry : Entry
free_entry = record { head = Nil; pair = no_row ∷ other_row ∷ []; count = 0; used = false }

-- with entries of free rows up to the row at k, where they lack
abbrev pub reached : ℕ → List Entry → List Entry
reached k entries = entries ++ replicate (k + 1 - length entries) free_entry

-- places in which these rows stand from one on
abbrev pub written : List Row → ℕ → List Row → List Row
written places from rows = take from places ++ (rows ++ drop (from + length rows) places)
