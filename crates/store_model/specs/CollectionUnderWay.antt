-- A collection under way: the other facts are read of the words as they were when it began.
use Rattle.std.specs.Prelude.{◌≡◌, ◌≢◌, ℕ, true, false}
use Rattle.lock_core.specs.declared.parts.Phase.TheVariants as phase
use Rattle.lock_core.specs.Lock.{seat_of}
use Rattle.lock_core.specs.Exclusion.{IsExclusive}
use Rattle.store_model.specs.Words.{Place, Claim}
use Rattle.store_model.specs.Machine.{Sizes, State}
use Rattle.store_model.specs.Steps.{loads, stores, is_storing, is_collecting, stored_over, HasLoaded, IsWhole}

pub record CollectionUnderWay (z : Sizes) (s : State) (began : Place → ℕ) : Type 0 where
  -- where no collection has stored anything, the words are those of the facts
  pub calm : ((i : ℕ) → is_storing (s.view i).call ≡ false) → s.words ≡ began
  -- what a collection has loaded is what the words held when it began
  pub loaded : (i : ℕ) → HasLoaded began (s.view i).call
  -- before its first store it has loaded every word of which the facts speak
  pub whole : (i : ℕ) → is_storing (s.view i).call ≡ true → IsWhole z began (loads (s.view i).call)
  -- its last store is the claim
  pub claim : (i : ℕ) → is_storing (s.view i).call ≡ true → s.words Claim ≡ began Claim
  -- the present words are the words as loaded with the stores made so far
  pub present : (i : ℕ) → is_storing (s.view i).call ≡ true
      → s.words ≡ stored_over began (stores (s.view i).call)
  -- it is exclusive, so no other seat is shared, and none collects
  pub alone : (i : ℕ) → is_collecting (s.view i).call ≡ true → IsExclusive s.lock i
  pub nobody_shared : (i j : ℕ) → is_collecting (s.view i).call ≡ true
      → (seat_of s.lock j).phase ≢ phase.Shared
  pub one : (i j : ℕ) → is_collecting (s.view i).call ≡ true
      → is_collecting (s.view j).call ≡ true → i ≡ j
