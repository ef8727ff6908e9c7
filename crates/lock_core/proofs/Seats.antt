-- The facts of exclusion, seat by seat.
use Rattle.std.proofs.Common.{◌≡◌, ◌≢◌, ◌↔◌, ℕ, zero, suc, ◌<◌, Option, None, Some, List, length, get_or, set, replicate, refl, sym, subst, get_or-set_same, get_or-set_other}
use mathlib.Core.Logic.{dite}
use native.Mathlib.Decide.{ℕ_discrete}
use Rattle.lock_core.specs.declared.parts.Phase.TheVariants.{Shared, Holder}
use Rattle.lock_core.specs.declared.parts.Standing.TheVariants.{Free, Held}
use Rattle.lock_core.specs.declared.parts.SeatState.{SeatState}
use Rattle.lock_core.specs.Lock.{Lock, idle, seat_of}
use Rattle.lock_core.specs.Exclusion.{busy_in, forbidden_in, IsSound}

-- what the four facts say of seat j
pub record SeatIsSound (mutex : Option ℕ) (j : ℕ) (s : SeatState) : Type 0 where
  pub busy : s.busy ≡ busy_in s.phase
  pub holder : (s.phase ≡ Holder) ↔ (mutex ≡ Some j)
  pub flag : s.forbidden ≡ forbidden_in s.standing
  pub nobody : mutex ≡ None → s.standing ≡ Free
  pub own : s.phase ≡ Holder → s.standing ≡ Free
  pub held : s.standing ≡ Held → s.phase ≢ Shared

pub seat_sound : (l : Lock) (j : ℕ) → IsSound l → SeatIsSound l.mutex j (seat_of l j)
seat_sound l j f = record {
  busy = f.busy j;
  holder = f.holder j;
  flag = f.forbidden.flags j;
  nobody = λ e. f.forbidden.nobody e j;
  own = f.forbidden.holder j;
  held = f.held j;
}

pub all_sound : (l : Lock) → ((j : ℕ) → SeatIsSound l.mutex j (seat_of l j)) → IsSound l
all_sound l f = record {
  busy = λ j. (f j).busy;
  holder = λ j. (f j).holder;
  forbidden = record { flags = λ j. (f j).flag; nobody = λ e j. (f j).nobody e; holder = λ j. (f j).own };
  held = λ j. (f j).held;
}

-- what holds of the new seat i, and of each other seat, holds of each seat
pub seat_case : (P : SeatState → Type 0) (xs : List SeatState) (i : ℕ) (s : SeatState) (j : ℕ) → i < length xs
    → (j ≡ i → P s) → (j ≢ i → P (get_or xs j idle)) → P (get_or (set xs i s) j idle)
seat_case P xs i s j present here there =
    dite (ℕ_discrete j i)
    (λ e. subst (λ (k : ℕ). P (get_or (set xs i s) k idle)) (sym e) (subst P (sym (get_or-set_same xs i s idle present)) (here e)))
    (λ ne. subst P (sym (get_or-set_other xs i j s idle ne)) (there ne))

-- one seat changes, and perhaps the mutex
pub sound_with : (l : Lock) (mutex : Option ℕ) (i : ℕ) (s : SeatState) → i < length l.seats
    → SeatIsSound mutex i s → ((j : ℕ) → j ≢ i → SeatIsSound mutex j (seat_of l j)) → IsSound (record { mutex = mutex; seats = set l.seats i s })
sound_with l mutex i s present own others =
    all_sound record { mutex = mutex; seats = set l.seats i s }
    (λ j. seat_case (SeatIsSound mutex j) l.seats i s j present (λ e. subst (λ (k : ℕ). SeatIsSound mutex k s) (sym e) own) (others j))

pub all_idle : (n j : ℕ) → get_or (replicate n idle) j idle ≡ idle
all_idle zero j = refl
all_idle (suc n) zero = refl
all_idle (suc n) (suc j) = all_idle n j
