-- The sizes that a store may have, and a new store.
use Rattle.std.specs.Prelude.{ℕ, ◌+◌, ◌^◌, ◌≤◌, nat_lt, if◌then◌else◌}
use Rattle.store_model.specs.Words.{Place, Base, FreeCount, InUse, FreePlace}
use Rattle.store_model.specs.Machine.{Sizes, State}
use Rattle.store_model.specs.Runs.{at_start}

-- what the sizes of a store have to be
pub record MaySize (z : Sizes) : Type 0 where
  pub rows : (1 ≤ z.rows) × (z.rows ≤ 262144)
  pub buckets : (1 ≤ z.buckets) × (z.buckets ≤ 262144)
  pub start : (1 ≤ z.start) × (z.start ≤ z.buckets)
  pub seats : (1 ≤ z.seats) × (z.seats ≤ 16)
  pub depth : z.depth ≤ 65536
  pub arity : z.arity ≤ 16
  pub first : 1 ≤ z.first
  pub room : z.first + z.rows + z.seats + 1 ≤ 2 ^ 62

-- the words of a new store: all rows are free, and the other words are 0
abbrev pub first_words : Sizes → Place → ℕ
first_words z Base = z.first
first_words z FreeCount = z.rows
first_words z InUse = z.start
first_words z (FreePlace i) = if nat_lt i z.rows then i else 0
first_words z p = 0

-- a new store
abbrev pub start_of : Sizes → State
start_of z = at_start z (first_words z)
