-- What the arrays of an index and of a table show, and the room that they have.
use Rattle.std.specs.Prelude.{◌+◌, ◌*◌, ◌^◌, ◌<◌, ◌≤◌, length, vec_capacity}
use Rattle.plain_store.specs.declared.index.Index.TheInside.{Inside as IndexInside}
use Rattle.plain_store.specs.declared.table.Table.TheInside.{Inside as TableInside}
use Rattle.plain_store.specs.Slots.{Slots}
use Rattle.plain_store.specs.Index.{Index}
use Rattle.plain_store.specs.Flat.{all_slots, HasEntries}

abbrev pub index_of : IndexInside → Index
index_of s = record { words = s.words.items; free = s.free.items; homes = s.homes; tags = s.tags }

-- There is room on the stack for each row whose word fits, each hash has its place, and there may
-- be more places than rows.
pub record IsIndex (s : IndexInside) : Type 0 where
  pub free : 2 ^ 32 ≤ vec_capacity s.free + s.tags + 1
  pub homes : s.homes < length s.words.items
  pub fits : length s.words.items ≤ s.most
  pub more : 2 ^ 32 ≤ s.most + s.tags
  pub most : s.most ≤ 2 ^ 32
  pub room : s.most ≤ vec_capacity s.words

abbrev pub slots_in : TableInside → Slots
slots_in s = record {
  slots = all_slots s.widest s.rows s.entries.items s.places.items;
  widest = s.widest;
}

-- There is room for the entry of each row, and for as many places of each as the widest.
pub record IsTable (s : TableInside) : Type 0 where
  pub rows : s.rows < 2 ^ 32
  pub widest : s.widest < 2 ^ 32
  pub front : length s.entries.items ≤ s.rows
  pub room : s.rows ≤ vec_capacity s.entries
  pub places : s.rows * s.widest ≤ vec_capacity s.places
  pub entries : HasEntries s.widest (length s.places.items) s.entries.items
