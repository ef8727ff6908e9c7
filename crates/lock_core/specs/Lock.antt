-- The busy-forbidden lock of Groote, Laveaux and van Spaendonck (2022) as plain data: what each
-- step needs, and what it does.
use Rattle.std.specs.Prelude.{◌≡◌, ◌≢◌, ◌⊎◌, ℕ, ◌<◌, true, false, if◌then◌else◌, Option, Some, None, MatchOption, List, [], ◌∷◌, length, get_or, set, replicate}
use Rattle.lock_core.specs.declared.parts.Phase.TheVariants.{Out, Raised, Shared, Blocked, Holder}
use Rattle.lock_core.specs.declared.parts.Standing.{Standing}
use Rattle.lock_core.specs.declared.parts.Standing.TheVariants.{Free, Asked, Seen, Held}
use Rattle.lock_core.specs.declared.parts.LockStep.{LockStep}
use Rattle.lock_core.specs.declared.parts.LockStep.TheVariants.{Raise, Look, Lower, Take, Ask, Peek, Unask, Give}
use Rattle.lock_core.specs.declared.parts.SeatState.{SeatState}

-- a lock: which seat has the mutex, and the seats in order
pub record Lock : Type 0 where
  pub mutex : Option ℕ
  pub seats : List SeatState

-- a seat that is out and free, with both flags clear
abbrev pub idle : SeatState
idle = record { phase = Out; busy = false; forbidden = false; standing = Free }

-- the lock at the start
abbrev pub at_start : ℕ → Lock
at_start n = record { mutex = None; seats = replicate n idle }

-- seat j, where a number past the seats is an idle seat
abbrev pub seat_of : Lock → ℕ → SeatState
seat_of l j = get_or l.seats j idle

-- the lock with seat j so
abbrev pub with_seat : Lock → ℕ → SeatState → Lock
with_seat l j s = record { mutex = l.mutex; seats = set l.seats j s }

-- j is another seat than i, and stands so with the holder
pub record Stands (l : Lock) (i j : ℕ) (t : Standing) : Type 0 where
  pub present : j < length l.seats
  pub other : j ≢ i
  pub standing : (seat_of l j).standing ≡ t

-- what the table of the lock asks of seat i before each step
abbrev pub Permits : Lock → ℕ → LockStep → Type 0
Permits l i Raise = (seat_of l i).phase ≡ Out
Permits l i Look = (seat_of l i).phase ≡ Raised
Permits l i Lower = ((seat_of l i).phase ≡ Shared) ⊎ ((seat_of l i).phase ≡ Blocked)
Permits l i Take = (seat_of l i).phase ≡ Out
Permits l i (Ask j) = ((seat_of l i).phase ≡ Holder) × Stands l i j Free
Permits l i (Peek j) = ((seat_of l i).phase ≡ Holder) × Stands l i j Asked
Permits l i (Unask j) = ((seat_of l i).phase ≡ Holder) × (j < length l.seats) × (j ≢ i)
    × ((seat_of l j).standing ≢ Free)
Permits l i Give = ((seat_of l i).phase ≡ Holder)
    × ((j : ℕ) → j < length l.seats → j ≢ i → (seat_of l j).standing ≡ Free)

-- a step is in place where its seat is there and the table permits it
pub record InPlace (l : Lock) (i : ℕ) (x : LockStep) : Type 0 where
  pub present : i < length l.seats
  pub permitted : Permits l i x

-- a free mutex goes to seat i, which is then the holder; where it is held nothing changes
abbrev pub taken : Lock → ℕ → Option ℕ → Lock
taken l i None =
    record { mutex = Some i; seats = set l.seats i (record (seat_of l i) { phase = Holder }) }
taken l i (Some h) = l

-- the lock after a step of seat i
abbrev pub after : Lock → ℕ → LockStep → Lock
after l i Raise = with_seat l i (record (seat_of l i) { phase = Raised; busy = true })
after l i Look =
    with_seat l i
    (record (seat_of l i) { phase = if (seat_of l i).forbidden then Blocked else Shared })
after l i Lower = with_seat l i (record (seat_of l i) { phase = Out; busy = false })
after l i Take = taken l i l.mutex
after l i (Ask j) = with_seat l j (record (seat_of l j) { forbidden = true; standing = Asked })
after l i (Peek j) =
    with_seat l j (record (seat_of l j) { standing = if (seat_of l j).busy then Seen else Held })
after l i (Unask j) = with_seat l j (record (seat_of l j) { forbidden = false; standing = Free })
after l i Give =
    record { mutex = None; seats = set l.seats i (record (seat_of l i) { phase = Out }) }

-- what one step answers: none exactly where it is out of place, and else the lock after it
abbrev pub Answers : Lock → ℕ → LockStep → Option Lock → Type 0
Answers l i x r = MatchOption r (InPlace l i x → ⊥) (λ m. InPlace l i x × (m ≡ after l i x))

-- a list of steps, each of a seat, leads from l to m, and each is in place where it is made
abbrev pub Leads : Lock → List (ℕ × LockStep) → Lock → Type 0
Leads l [] m = m ≡ l
Leads l (s ∷ steps) m = InPlace l s.0 s.1 × Leads (after l s.0 s.1) steps m
