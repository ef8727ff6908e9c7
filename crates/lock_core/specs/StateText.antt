-- A lock as text: a line for each seat, and one for the mutex.
use Rattle.std.specs.Prelude.{◌≡◌, ℕ, zero, suc, Bool, true, false, codes, Option, None, Some, Result, MatchResult, List, [], ◌∷◌, ◌++◌, length}
use Rattle.faults.specs.declared.Memory.{Memory}
use denote.Bor.{Bor}
use Rattle.std.specs.List.{concat}
use Rattle.std.specs.Fmt.{decimal}
use Rattle.lock_core.specs.declared.parts.Phase.{Phase}
use Rattle.lock_core.specs.declared.parts.Phase.TheVariants.{Out, Raised, Shared, Blocked, Holder}
use Rattle.lock_core.specs.declared.parts.Standing.{Standing}
use Rattle.lock_core.specs.declared.parts.Standing.TheVariants.{Free, Asked, Seen, Held}
use Rattle.lock_core.specs.declared.parts.SeatState.{SeatState}
use Rattle.lock_core.specs.Lock.{Lock, seat_of}

abbrev pub phase_text : Phase → List ℕ
phase_text Out = codes "out"
phase_text Raised = codes "raised"
phase_text Shared = codes "shared"
phase_text Blocked = codes "blocked"
phase_text Holder = codes "holder"

abbrev pub standing_text : Standing → List ℕ
standing_text Free = codes "free"
standing_text Asked = codes "asked"
standing_text Seen = codes "seen"
standing_text Held = codes "held"

abbrev pub flag_text : Bool → List ℕ
flag_text false = codes "0"
flag_text true = codes "1"

abbrev pub mutex_text : Option ℕ → List ℕ
mutex_text None = codes "mutex free"
mutex_text (Some i) = codes "mutex " ++ decimal i

-- the line of seat j, with its line feed
abbrev pub seat_line : ℕ → SeatState → List ℕ
seat_line j s =
    concat (codes "seat " ∷ decimal j ∷ codes " " ∷ phase_text s.phase ∷ codes " busy " ∷ flag_text s.busy
    ∷ codes " forbidden " ∷ flag_text s.forbidden ∷ codes " " ∷ standing_text s.standing ∷ codes "\n" ∷ [])

-- the lines of the first k seats
abbrev pub seat_lines : Lock → ℕ → List ℕ
seat_lines l zero = []
seat_lines l (suc k) = seat_lines l k ++ seat_line k (seat_of l k)

-- the whole text
abbrev pub state_text : Lock → List ℕ
state_text l = seat_lines l (length l.seats) ++ (mutex_text l.mutex ++ codes "\n")

-- the new bytes are the old ones and more
pub record Extends (old new : List ℕ) : Type 0 where
  pub more : List ℕ
  pub is : new ≡ old ++ more

-- the text was appended; without memory at most a part of it
abbrev pub Appends : List ℕ → List ℕ → List ℕ → Result (Unit {0}) Memory → Type 0
Appends old new text r = MatchResult r (λ _. new ≡ old ++ text) (λ _. Extends old new)

-- the parts, one after another
abbrev pub joined : List (Bor (List ℕ)) → List ℕ
joined [] = []
joined (part ∷ parts) = part.now ++ joined parts
