-- How workers end, and their lines at the places of their terms.
use Rattle.std.specs.Prelude.{◌≡◌, ◌⊎◌, ℕ, ◌<◌, List, Option, Some, None, Result, Ok, Err, Contains, All, length, map, slice_get, sum_by}
use Rattle.atomic_table.specs.Seated.{TableId}
use Rattle.line_ends.specs.declared.stop.LineStop.{LineStop}
use Rattle.line_ends.specs.declared.stop.LineStop.TheVariants as stop
use Rattle.worker_crew.specs.declared.fault.AllFault.{AllFault}
use Rattle.worker_crew.specs.declared.fault.AllFault.TheVariants.{StoreFull, Worn, Memory}
use Rattle.worker_crew.specs.declared.lines.Traced.{Traced}
use Rattle.worker_crew.specs.declared.share.Numbered.{Numbered}
use Rattle.worker_crew.specs.declared.share.Share.{Share}
use Rattle.worker_crew.specs.Dealt.{IsIn, times, once_below}
use Rattle.worker_crew.specs.Crews.{number_of, drawn_of}

-- The fault of several ends: want of memory goes before want of numbers, and that before want of
-- rows.
abbrev pub IsWorst : List (Result (Unit {0}) LineStop) → Option AllFault → Type 0
IsWorst ends None = All (λ end. end ≡ Ok tt) ends
IsWorst ends (Some Memory) = Contains ends (Err stop.Memory)
IsWorst ends (Some Worn) = Contains ends (Err stop.Worn) × (Contains ends (Err stop.Memory) → ⊥)
IsWorst ends (Some StoreFull) = Contains ends (Err stop.StoreFull)
    × (Contains ends (Err stop.Worn) → ⊥) × (Contains ends (Err stop.Memory) → ⊥)

abbrev pub end_of_share : Share → Result (Unit {0}) LineStop
end_of_share share = share.end

-- a seat with one share
pub record HasOneShare (table : TableId) (share : Share) : Type 0 where
  pub seat : IsIn table share.seat.table_id share.seat.me share.seat.me.0
  pub shares : share.seat.me.0.shares ≡ 1

-- there is a place for each of the lines
abbrev pub HasPlaces : ℕ → List Numbered → Type 0
HasPlaces count made = All (λ x. x.number < count) made

-- one of these lines is at the place of its number
abbrev pub IsPlaced : List Numbered → List Traced → ℕ → Type 0
IsPlaced made lines i = (line : Traced) × (slice_get lines i ≡ Some line)
    × Contains made (record { number = i; line = line })

-- Each place has one of the lines with its number; where there is none it has what it had.
abbrev pub Places : List Numbered → List Traced → List Traced → Type 0
Places made old new = (i : ℕ) → i < length old → IsPlaced made new i
    ⊎ ((slice_get new i ≡ slice_get old i) × (times i (map number_of made) ≡ 0))

-- the same of the lines of all shares
abbrev pub PlacesAll : List Share → List Traced → List Traced → Type 0
PlacesAll shares old new = (i : ℕ) → i < length old →
    ((share : Share) × Contains shares share × IsPlaced share.lines.items new i)
    ⊎ ((slice_get new i ≡ slice_get old i)
    × All (λ (share : Share). times i (map number_of share.lines.items) ≡ 0) shares)

-- some count of numbers was drawn, each of those below it once
pub record DrawnOnce (shares : List Share) : Type 0 where
  pub count : ℕ
  pub once : (x : ℕ) → sum_by (λ (y : Share). times x (drawn_of y)) shares ≡ once_below count x

-- no worker stopped, and the lines of all shares are at their places
pub record IsCollected (shares : List Share) (blank lines : List Traced) : Type 0 where
  pub well : IsWorst (map end_of_share shares) None
  pub long : length lines ≡ length blank
  pub placed : PlacesAll shares blank lines
