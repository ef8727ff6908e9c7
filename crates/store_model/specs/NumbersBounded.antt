-- Birth numbers, the claim and the bases.
use Rattle.std.specs.Prelude.{◌≡◌, ◌≢◌, ◌⊎◌, ℕ, ◌+◌, ◌≤◌, ◌^◌, true, Some}
use Rattle.store_model.specs.Words.{Place, Base, FreeCount, Claim, InUse, FreePlace, Birth}
use Rattle.store_model.specs.Calls.{Away, Ready, Counting, Drawing, Call, View}
use Rattle.store_model.specs.Machine.{Sizes}
use Rattle.store_model.specs.Meaning.{Meaning, IsBorn}
use Rattle.store_model.specs.Invariant.{is_at, tally, span}
use Rattle.store_model.specs.Bases.{IsBase, StaysBelow, collections}

-- what a call has read of the free count
abbrev pub CountIs : ℕ → Call → Type 0
CountIs count (Drawing c from n) = n ≡ count
CountIs count x = Unit {0}

-- a claim that a call has read is full
abbrev pub ReadFull : ℕ → Call → Type 0
ReadFull count (Counting c from n) = count ≤ n
ReadFull count (Drawing c from n) = ⊥
ReadFull count x = Unit {0}

pub record NumbersBounded (z : Sizes) (w : Place → ℕ) (m : Meaning) (view : ℕ → View) : Type 0 where
  -- a live row's birth number is below the base, or is the base and the index of its free place;
  -- birth numbers differ
  pub born : (r : ℕ) → m.live r ≡ true
      → IsBorn (w Base) (w FreeCount) (λ i. w (FreePlace i)) r (w (Birth r))
  pub differ : (r q : ℕ) → m.live r ≡ true → m.live q ≡ true → w (Birth r) ≡ w (Birth q) → r ≡ q
  -- the claim is at most the free count and the seats whose last overdraw was at this base
  pub claim : w Claim ≤ w FreeCount + tally (λ i. is_at (view i).overdraw (w Base)) z.seats
  -- with such a seat the claim, and what its call has read of it, is at least the free count
  pub full : (i : ℕ) → (view i).overdraw ≡ Some (w Base) → w FreeCount ≤ w Claim
  pub read_full : (i : ℕ) → (view i).overdraw ≡ Some (w Base) → ReadFull (w FreeCount) (view i).call
  pub room : w Base + span z ≤ 2 ^ 62
  -- what a seat has loaded or stored of base, free count and buckets in use in its stay is what
  -- they hold
  pub base : (i : ℕ) → (view i).stay ≢ Away → (view i).base ≡ w Base
  pub count : (i : ℕ) → CountIs (w FreeCount) (view i).call
  pub in_use : (i : ℕ) → (view i).stay ≡ Ready → (view i).in_use ≡ w InUse
  -- the base, and each base that a seat has loaded, is the first or one more than the number of a
  -- Collect
  pub base_known : IsBase z.first (collections z view) (w Base)
  pub loaded_known : (i : ℕ) → ((view i).base ≡ 0)
      ⊎ IsBase z.first (collections z view) (view i).base
  -- the c-th Collect has a number of less than first + c * span
  pub collects : StaysBelow z.first (span z) 1 (collections z view)
