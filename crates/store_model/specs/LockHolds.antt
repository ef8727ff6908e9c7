-- The lock between any two steps, and what a seat's access is.
use Rattle.std.specs.Prelude.{◌≡◌, ◌≢◌, ℕ, length}
use Rattle.lock_core.specs.Lock.{Lock}
use Rattle.lock_core.specs.Exclusion.{BusyMatchesPhase, OneHolder, ForbiddenMatchesStanding, HeldIsNotShared}
use Rattle.store_model.specs.Calls.{Idle, View}
use Rattle.store_model.specs.Machine.{Sizes, InAccess}

pub record LockHolds (z : Sizes) (l : Lock) (view : ℕ → View) : Type 0 where
  pub busy : BusyMatchesPhase l
  pub one_holder : OneHolder l
  pub forbidden : ForbiddenMatchesStanding l
  pub held : HeldIsNotShared l
  pub seats : length l.seats ≡ z.seats
  -- a seat with a call in flight on rows is in shared or in exclusive access
  pub in_flight : (i : ℕ) → (view i).call ≢ Idle → InAccess l i
