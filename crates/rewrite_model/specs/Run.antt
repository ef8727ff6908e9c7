-- How an evaluation ends, and what it notes on its way.
use Rattle.std.specs.Prelude.{ℕ, zero, suc, List, [], ◌∷◌, ◌++◌}

-- a value with the fuel that is left, or the end of fuel or of room
pub data Ended (A : Type 0) : Type 0 where
  Done : A → ℕ → Ended A
  OutOfFuel : Ended A
  TooDeep : Ended A

-- what was noted, in order, and the end
pub record Run (N A : Type 0) : Type 0 where
  pub notes : List N
  pub end : Ended A

abbrev pub done : {N A : Type 0} → A → ℕ → Run N A
done a fuel = record { notes = []; end = Done a fuel }

abbrev pub ends : {N A : Type 0} → Ended A → Run N A
ends e = record { notes = []; end = e }

-- the same run with a note before all others
abbrev pub noting : {N A : Type 0} → N → Run N A → Run N A
noting n r = record { notes = n ∷ r.notes; end = r.end }

abbrev pub after : {N A B : Type 0} → List N → Ended A → (A → ℕ → Run N B) → Run N B
after notes (Done a left) go = record { notes = notes ++ (go a left).notes; end = (go a left).end }
after notes OutOfFuel go = record { notes = notes; end = OutOfFuel }
after notes TooDeep go = record { notes = notes; end = TooDeep }

infixl 10 ◌>>=◌
-- goes on with the value and the fuel that is left; the first end that is no value is the end of
-- all
abbrev pub ◌>>=◌ : {N A B : Type 0} → Run N A → (A → ℕ → Run N B) → Run N B
r >>= go = after r.notes r.end go

-- nothing is done in room 0
abbrev pub in_room : {N A : Type 0} → ℕ → Run N A → Run N A
in_room zero r = ends TooDeep
in_room (suc n) r = r
