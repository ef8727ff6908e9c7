-- The lines that the program writes to standard error, and how much of a line a sink takes.
use Rattle.std.specs.Prelude.{◌⊎◌, ℕ, List, [], ◌++◌, Option, codes, ◌==◌, if◌then◌else◌}
use Rattle.std.specs.Fmt.{decimal}
use Rattle.std.specs.Io.KnownBytes.{Appends}
use Rattle.faults.specs.Count.{Rose}
use Rattle.ends.specs.Bytes.{TookFront}
use Rattle.faults.specs.declared.refusal.Refusal.{Refusal}
use Rattle.rec_answers.specs.declared.stops.Stop.{Stop}
use Rattle.rec_answers.specs.declared.stops.Stop.TheVariants.{Usage, Refused, StoreFull, ReadFault, WriteFault, Memory, Worn}

-- a text, and the end of its line
abbrev pub line : List ℕ → List ℕ
line text = text ++ codes "\n"

-- fault K at O
abbrev pub fault_line : Refusal → List ℕ
fault_line fault = line (codes "fault " ++ decimal fault.kind ++ codes " at " ++ decimal fault.place)

abbrev pub stop_line : Stop → List ℕ
stop_line Usage = line (codes "usage: rec COMMAND [OPTIONS]")
stop_line (Refused fault) = fault_line fault
stop_line StoreFull = line (codes "store full")
stop_line ReadFault = line (codes "read fault")
stop_line WriteFault = line (codes "write fault")
stop_line Memory = line (codes "out of memory")
stop_line Worn = line (codes "worn")

-- the exit status
abbrev pub stop_status : Stop → ℕ
stop_status Usage = 2
stop_status (Refused fault) = 3
stop_status StoreFull = 4
stop_status ReadFault = 5
stop_status WriteFault = 6
stop_status Memory = 7
stop_status Worn = 8

-- the line of each status but 3, whose line names its fault
abbrev pub status_line : ℕ → List ℕ
status_line status =
    if status == 2 then stop_line Usage
    else if status == 4 then stop_line StoreFull
    else if status == 5 then stop_line ReadFault
    else if status == 6 then stop_line WriteFault
    else if status == 7 then stop_line Memory
    else if status == 8 then stop_line Worn
    else []

-- A front of the line was taken, and all of it where the sink's count of faults didn't rise. What a
-- sink took and its count are read of it by two functions.
pub record TookLine {E : Type 0} (taken : E → Option (List ℕ)) (faults : E → ℕ) (old new : E)
    (whole_line : List ℕ) : Type 0 where
  pub front : TookFront (taken old) (taken new) whole_line
  pub whole : Rose (faults old) (faults new) ⊎ Appends (taken old) (taken new) whole_line
