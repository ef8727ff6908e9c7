-- What every step of the lock keeps, and what it is for: beside an exclusive seat nobody is in.
use Rattle.std.specs.Prelude.{◌≡◌, ◌≢◌, ◌↔◌, ℕ, ◌<◌, Bool, true, false, Some, None, length}
use Rattle.lock_core.specs.declared.parts.Phase.{Phase}
use Rattle.lock_core.specs.declared.parts.Phase.TheVariants.{Out, Raised, Shared, Blocked, Holder}
use Rattle.lock_core.specs.declared.parts.Standing.{Standing}
use Rattle.lock_core.specs.declared.parts.Standing.TheVariants.{Free, Asked, Seen, Held}
use Rattle.lock_core.specs.Lock.{Lock, seat_of}

-- whether busy is set, by the phase
abbrev pub busy_in : Phase → Bool
busy_in Out = false
busy_in Raised = true
busy_in Shared = true
busy_in Blocked = true
busy_in Holder = false

-- whether forbidden is set, by the standing with the holder
abbrev pub forbidden_in : Standing → Bool
forbidden_in Free = false
forbidden_in Asked = true
forbidden_in Seen = true
forbidden_in Held = true

-- busy is set exactly in the phases raised, shared and blocked
abbrev pub BusyMatchesPhase : Lock → Type 0
BusyMatchesPhase l = (j : ℕ) → (seat_of l j).busy ≡ busy_in (seat_of l j).phase

-- the holder is the seat that has the mutex, so there is one at most
abbrev pub OneHolder : Lock → Type 0
OneHolder l = (j : ℕ) → ((seat_of l j).phase ≡ Holder) ↔ (l.mutex ≡ Some j)

-- forbidden is set exactly where a seat stands as asked, seen or held; without a holder all stand
-- free, and the holder does
pub record ForbiddenMatchesStanding (l : Lock) : Type 0 where
  pub flags : (j : ℕ) → (seat_of l j).forbidden ≡ forbidden_in (seat_of l j).standing
  pub nobody : l.mutex ≡ None → (j : ℕ) → (seat_of l j).standing ≡ Free
  pub holder : (j : ℕ) → (seat_of l j).phase ≡ Holder → (seat_of l j).standing ≡ Free

-- a held seat is not shared
abbrev pub HeldIsNotShared : Lock → Type 0
HeldIsNotShared l = (j : ℕ) → (seat_of l j).standing ≡ Held → (seat_of l j).phase ≢ Shared

-- the four facts together
pub record IsSound (l : Lock) : Type 0 where
  pub busy : BusyMatchesPhase l
  pub holder : OneHolder l
  pub forbidden : ForbiddenMatchesStanding l
  pub held : HeldIsNotShared l

-- a seat is exclusive while it is the holder and holds every other seat
pub record IsExclusive (l : Lock) (i : ℕ) : Type 0 where
  pub present : i < length l.seats
  pub holder : (seat_of l i).phase ≡ Holder
  pub others : (j : ℕ) → j < length l.seats → j ≢ i → (seat_of l j).standing ≡ Held

-- beside an exclusive seat no seat is shared and no other is exclusive
abbrev pub Exclusion : Lock → Type 0
Exclusion l =
    (i j : ℕ) → IsExclusive l i → j < length l.seats → j ≢ i → ((seat_of l j).phase ≢ Shared)
    × (IsExclusive l j → ⊥)
