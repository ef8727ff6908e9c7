-- Each row is free, drawn, unused or live.
use Rattle.std.specs.Prelude.{◌≡◌, ◌≢◌, ◌⊎◌, ℕ, ◌<◌, ◌≤◌, Bool, true, false, Some}
use Rattle.store_model.specs.Words.{Place, Base, FreeCount, Claim, FreePlace, row_at}
use Rattle.store_model.specs.Calls.{Call}
use Rattle.store_model.specs.Machine.{Sizes}
use Rattle.store_model.specs.Seats.{index, drawn, Filled}

-- r is in the k-th free place, which counts, and isn't live
pub record IsAt (w : Place → ℕ) (live : ℕ → Bool) (r k : ℕ) : Type 0 where
  pub counts : k < w FreeCount
  pub place : w (FreePlace k) ≡ r
  pub dead : live r ≡ false

-- free: its place has an index from the claim on
pub record IsFree (w : Place → ℕ) (live : ℕ → Bool) (r : ℕ) : Type 0 where
  pub at : ℕ
  pub stands : IsAt w live r at
  pub unclaimed : w Claim ≤ at

-- drawn: its index is below the claim and belongs to the call of one seat
pub record IsDrawnRow (z : Sizes) (w : Place → ℕ) (live : ℕ → Bool) (call : ℕ → Call)
    (r : ℕ) : Type 0 where
  pub at : ℕ
  pub stands : IsAt w live r at
  pub claimed : at < w Claim
  pub seat : ℕ
  pub there : seat < z.seats
  pub its : index (call seat) ≡ Some at
  pub only : (j : ℕ) → index (call j) ≡ Some at → j ≡ seat

-- unused: its index is below the claim and belongs to no seat's call
pub record IsUnused (z : Sizes) (w : Place → ℕ) (live : ℕ → Bool) (call : ℕ → Call)
    (r : ℕ) : Type 0 where
  pub at : ℕ
  pub stands : IsAt w live r at
  pub claimed : at < w Claim
  pub nobody : (j : ℕ) → j < z.seats → index (call j) ≢ Some at

-- what a row is
abbrev pub IsOneOf : Sizes → (Place → ℕ) → (ℕ → Bool) → (ℕ → Call) → ℕ → Type 0
IsOneOf z w live call r =
    IsFree w live r ⊎ (IsDrawnRow z w live call r ⊎ (IsUnused z w live call r ⊎ (live r ≡ true)))

pub record RowsPartitioned (z : Sizes) (w : Place → ℕ) (live : ℕ → Bool)
    (call : ℕ → Call) : Type 0 where
  -- the first free places hold different rows
  pub rows : (i : ℕ) → i < w FreeCount → w (FreePlace i) < z.rows
  pub differ : (i j : ℕ) → i < w FreeCount → j < w FreeCount
      → w (FreePlace i) ≡ w (FreePlace j) → i ≡ j
  -- a row in none of them is live
  pub others : (r : ℕ) → r < z.rows → ((i : ℕ) → i < w FreeCount → w (FreePlace i) ≢ r)
      → live r ≡ true
  pub each : (r : ℕ) → r < z.rows → IsOneOf z w live call r
  -- a drawn row is that of its place, and its words hold what its call has stored
  pub its_place : (j i r : ℕ) → drawn (call j) ≡ Some (i, r) → w (FreePlace i) ≡ r
  pub stored : (j i r : ℕ) → drawn (call j) ≡ Some (i, r) → Filled (row_at w r) (w Base) (call j)
