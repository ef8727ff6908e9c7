-- Schedules: steps of the lock as lines of text, and what such a text comes to.
use Rattle.std.specs.Prelude.{◌≡◌, ◌⊎◌, ℕ, ◌+◌, ◌<◌, ◌==◌, codes, if◌then◌else◌, Result, Ok, Err, List, [], ◌∷◌, ◌++◌}
use Rattle.std.specs.Fmt.{decimal}
use Rattle.lock_core.specs.declared.parts.LockStep.{LockStep}
use Rattle.lock_core.specs.declared.parts.LockStep.TheVariants.{Raise, Look, Lower, Take, Ask, Peek, Unask, Give}
use Rattle.lock_core.specs.declared.reading.LineFault.{LineFault}
use Rattle.lock_core.specs.Lock.{Lock, InPlace, after}

-- a byte at the front of the first line, or on a line of its own where there is none
abbrev pub before_lines : ℕ → List (List ℕ) → List (List ℕ)
before_lines b [] = (b ∷ []) ∷ []
before_lines b (line ∷ rest) = (b ∷ line) ∷ rest

-- the lines of a text: each ends with a line feed, and the last may end with the text
abbrev pub lines : List ℕ → List (List ℕ)
lines [] = []
lines (b ∷ bs) = if b == 10 then [] ∷ lines bs else before_lines b (lines bs)

-- how a step is written: its word, and after a space the seat that it is on
abbrev pub step_text : LockStep → List ℕ
step_text Raise = codes "raise"
step_text Look = codes "look"
step_text Lower = codes "lower"
step_text Take = codes "take"
step_text (Ask j) = codes "ask " ++ decimal j
step_text (Peek j) = codes "peek " ++ decimal j
step_text (Unask j) = codes "unask " ++ decimal j
step_text Give = codes "give"

-- the seat that a step is on is one of n
abbrev pub IsOnSeat : ℕ → LockStep → Type 0
IsOnSeat n (Ask j) = j < n
IsOnSeat n (Peek j) = j < n
IsOnSeat n (Unask j) = j < n
IsOnSeat n x = Unit {0}

-- a line, among n seats: a seat, a space and a step
pub record IsLine (n : ℕ) (line : List ℕ) (seat : ℕ) (x : LockStep) : Type 0 where
  pub seat_there : seat < n
  pub on_seat : IsOnSeat n x
  pub text : line ≡ decimal seat ++ (32 ∷ step_text x)

-- a line that is none
abbrev pub IsBadLine : ℕ → List ℕ → Type 0
IsBadLine n line = (seat : ℕ) (x : LockStep) → IsLine n line seat x → ⊥

-- What lines come to from a lock, the first having this number. Each line is read, and then its
-- step is tried: the first of a wrong form is BadLine, 15, and the first whose step is out of place
-- is OutOfPlace, 16.
abbrev pub ComesTo : ℕ → Lock → ℕ → List (List ℕ) → Result Lock LineFault → Type 0
ComesTo n l number [] r = r ≡ Ok l
ComesTo n l number (line ∷ rest) r =
    (IsBadLine n line × (r ≡ Err record { kind = 15; line = number }))
    ⊎ ((seat : ℕ) × (x : LockStep) × IsLine n line seat x
    × (((InPlace l seat x → ⊥) × (r ≡ Err record { kind = 16; line = number }))
    ⊎ (InPlace l seat x × ComesTo n (after l seat x) (number + 1) rest r)))
