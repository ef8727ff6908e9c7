-- What is left to visit where a walk stands, record within record.
use Rattle.std.specs.Prelude.{ℕ, ◌+◌, ◌-◌, ◌*◌, ◌<◌, ◌≤◌, List, [], ◌∷◌, ◌++◌, length, drop}
use Rattle.std.specs.List.{flat_map}
use Rattle.term_file.specs.declared.frame.Frame.{Frame}
use Rattle.term_file.specs.Contents.{Record, arguments_at}
use Rattle.term_file.specs.InOrder.{visits_at, visits}

-- the visits of a record of which some arguments were visited
abbrev pub left_of : List Record → Frame → List ℕ
left_of records f =
    flat_map (visits_at (visits records)) (drop f.done (arguments_at records f.number))
    ++ f.number ∷ []

-- the visits of all records on the stack, of which the last is on top
abbrev pub left_in : List Record → List Frame → List ℕ
left_in records [] = []
left_in records (f ∷ fs) = left_in records fs ++ left_of records f

-- how much work is left
abbrev pub work : List Record → List Frame → ℕ
work records [] = 0
work records (f ∷ fs) = work records fs + (2 * length (left_of records f) - 1)

-- a frame's record is there, and no more arguments were visited than it has
pub record Fits (records : List Record) (f : Frame) : Type 0 where
  pub there : f.number < length records
  pub within : f.done ≤ length (arguments_at records f.number)
