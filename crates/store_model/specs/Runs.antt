-- What every step keeps, and lists of steps from a new store.
use Rattle.std.specs.Prelude.{◌≡◌, ℕ, ◌+◌, ◌<◌, ◌≤◌, ◌^◌}
use Rattle.lock_core.specs.Lock as lock
use Rattle.store_model.specs.Words.{Place, Base, FreeCount, Claim, InUse, FreePlace, Bucket, RowWord, RootCount, Root}
use Rattle.store_model.specs.Machine.{Sizes, State, Step}
use Rattle.store_model.specs.Invariant.{span}
use Rattle.store_model.specs.Steps.{CoreHolds, InPlace, after, newcomer}
use Rattle.store_model.specs.Reads.{Remembers}

pub record Inductive (z : Sizes) (s : State) : Type 0 where
  pub core : CoreHolds z s
  pub remembers : Remembers z s

-- what the sizes of a store have to be
pub record AreSizes (z : Sizes) : Type 0 where
  pub first : 1 ≤ z.first
  pub room : z.first + span z ≤ 2 ^ 62
  pub used : 0 < z.start
  pub within : z.start ≤ z.buckets

-- the words at the start: all rows are free
pub record StartsWith (z : Sizes) (w : Place → ℕ) : Type 0 where
  pub base : w Base ≡ z.first
  pub count : w FreeCount ≡ z.rows
  pub claim : w Claim ≡ 0
  pub in_use : w InUse ≡ z.start
  pub place : (i : ℕ) → i < z.rows → w (FreePlace i) ≡ i
  pub bucket : (b : ℕ) → w (Bucket b) ≡ 0
  pub count_word : (r : ℕ) → w (RowWord r 1) ≡ 0
  pub root_count : (j : ℕ) → w (RootCount j) ≡ 0
  pub root : (j k : ℕ) → k < z.depth → w (Root j k) ≡ 0

-- a new store with these words
abbrev pub at_start : Sizes → (Place → ℕ) → State
at_start z w = record { lock = lock.at_start z.seats; words = w; view = λ _. newcomer z }

-- the core of one step's proof
abbrev pub StepKeeps : Step → Type 0
StepKeeps x = (z : Sizes) (s : State) (i : ℕ) → Remembers z s → CoreHolds z s → InPlace z s i x
    → CoreHolds z (after z s i x)
