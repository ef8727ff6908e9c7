-- Where the rows are: those in use stand in places, each in the first one from that of its hash on
-- which was vacant, and the free ones on a stack.
use Rattle.std.specs.Prelude.{◌≡◌, ℕ, ◌+◌, ◌-◌, ◌/◌, ◌^◌, ◌<◌, ◌≤◌, ◌==◌, List, [], ◌∷◌, ◌++◌, Some, None, Contains, length, slice_index_or, slice_set, take, if◌then◌else◌, nat_lt}
use Rattle.std.specs.Int.Bits.{bit_and}
use Rattle.term_model.specs.declared.Row.{Row}
use Rattle.term_model.specs.declared.Head.{Head}
use Rattle.plain_store.specs.Slots.{Slot}
use Rattle.plain_store.specs.Hash.{hash}

-- the word of each place, and the free rows
pub record Index : Type 0 where
  pub words : List ℕ
  pub free : List Row
  -- of a hash's high half, the bits that are the place looked at first, and those that a word may
  -- have beside the row
  pub homes : ℕ
  pub tags : ℕ

-- the word of a place where no row stands
abbrev pub vacant : ℕ
vacant = 2 ^ 32 - 1

abbrev pub word_at : Index → ℕ → ℕ
word_at x p = slice_index_or x.words p vacant

-- the place at which rows of this hash are looked for first
abbrev pub home_of : Index → ℕ → ℕ
home_of x hashed = bit_and (hashed / 2 ^ 32) x.homes

-- what the word of a row of this hash has beside the row
abbrev pub tag_of : Index → ℕ → ℕ
tag_of x hashed = bit_and (hashed / 2 ^ 32) x.tags

-- how many places aren't vacant
abbrev pub filled_count : List ℕ → ℕ
filled_count [] = 0
filled_count (w ∷ words) = filled_count words + (if w == vacant then 0 else 1)

-- the place that is so many behind this one: behind the last comes the first
abbrev pub place_behind : Index → ℕ → ℕ → ℕ
place_behind x p n = if nat_lt (p + n) (length x.words) then p + n else p + n - length x.words

-- the place that is looked at after so many others, for a row of this hash
abbrev pub place_of : Index → ℕ → ℕ → ℕ
place_of x hashed n = place_behind x (home_of x hashed) n

-- none of so many places that are looked at first is vacant
abbrev pub HasNoneVacant : Index → ℕ → ℕ → Type 0
HasNoneVacant x hashed n = (k : ℕ) → k < n → word_at x (place_of x hashed k) ≡ vacant → ⊥

-- The row of this hash stands where it is looked for.
pub record IsReached (x : Index) (hashed : ℕ) (r : Row) : Type 0 where
  pub steps : ℕ
  pub within : steps < length x.words
  pub there : word_at x (place_of x hashed steps) ≡ r.0 + tag_of x hashed
  pub fits : r.0 + tag_of x hashed < vacant
  pub filled : HasNoneVacant x hashed steps

-- The row of this hash is put into the first vacant place.
pub record IsLinked (old new : Index) (hashed : ℕ) (r : Row) : Type 0 where
  pub steps : ℕ
  pub within : steps < length old.words
  pub below : place_of old hashed steps < length old.words
  pub none : word_at old (place_of old hashed steps) ≡ vacant
  pub fits : r.0 + tag_of old hashed < vacant
  pub filled : HasNoneVacant old hashed steps
  pub is : new ≡ record old
      { words = slice_set old.words (place_of old hashed steps) (r.0 + tag_of old hashed) }

abbrev pub freed : Index → Row → Index
freed x r = record x { free = x.free ++ r ∷ [] }

-- without the last free row
abbrev pub taken : Index → Index
taken x = record x { free = take (length x.free - 1) x.free }

-- Each row in use stands where it is looked for, no more places are filled than rows are in use,
-- and the free rows are on the stack, each once, in rising order.
pub record IsIndexed (slots : List Slot) (x : Index) : Type 0 where
  pub fits : length x.free ≤ length slots
  pub filled : filled_count x.words + length x.free ≤ length slots
  pub reached : (r : Row) (n : Head × List Row) → slice_index_or slots r.0 None ≡ Some n
      → IsReached x (hash n.0 n.1) r
  pub free : (r : Row) → r.0 < length slots → slice_index_or slots r.0 None ≡ None
      → Contains x.free r
  pub only_free : (r : Row) → Contains x.free r → (r.0 < length slots)
      × (slice_index_or slots r.0 None ≡ None)
  pub once : (i j : ℕ) (d : Row) → i < j → j < length x.free
      → (slice_index_or x.free i d).0 < (slice_index_or x.free j d).0

-- The rows from this one on were never in use.
pub record IsFront (fresh : ℕ) (slots : List Slot) : Type 0 where
  pub fits : fresh ≤ length slots
  pub behind : (k : ℕ) → fresh ≤ k → slice_index_or slots k None ≡ None

-- so many rows have words: whatever bits of `tags` stand beside a row, its word is less than a
-- vacant place's
abbrev pub HasRoom : Index → ℕ → Type 0
HasRoom x rows = rows + x.tags < 2 ^ 32

-- The rows before this one are indexed, and the others were never in use. All rows have words, and
-- there are more places than rows that were ever in use.
pub record IsIndexedTo (fresh : ℕ) (slots : List Slot) (x : Index) : Type 0 where
  pub front : IsFront fresh slots
  pub room : HasRoom x (length slots)
  pub places : fresh < length x.words
  pub indexed : IsIndexed (take fresh slots) x
