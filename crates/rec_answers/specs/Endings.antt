-- How a run ends whose command has answered. The output has a count of faults and tells what it
-- took (`taken`, `faults`), and so has the error output (`told`, `misses`).
use Rattle.std.specs.Prelude.{◌≡◌, ◌≤◌, ℕ, List, [], Option}
use Rattle.std.specs.Io.KnownBytes.{Appends}
use Rattle.faults.specs.Count.{Rose}
use Rattle.ends.specs.Bytes.{TookFront}
use Rattle.rec_answers.specs.Lines.{TookLine, stop_line, stop_status}
use Rattle.rec_answers.specs.Written.{status_for}
use Rattle.rec_answers.specs.declared.answers.Answer.{Answer}
use Rattle.rec_answers.specs.declared.results.Outcome.{Outcome}
use Rattle.rec_answers.specs.declared.stops.Stop.{Stop}
use Rattle.rec_answers.specs.declared.stops.Stop.TheVariants.{WriteFault}

-- The command stopped, and nothing was written to the output.
pub record HasStopped {O E : Type 0} (out_before out_after : O) (told : E → Option (List ℕ))
    (misses : E → ℕ) (err_before err_after : E) (stop : Stop) (outcome : Outcome) : Type 0 where
  pub silent : out_after ≡ out_before
  pub status : outcome.status ≡ stop_status stop
  pub line : TookLine told misses err_before err_after (stop_line stop)
  pub later : misses err_before ≤ misses err_after
  pub workers : outcome.workers ≡ []

-- The bytes were written whole.
pub record HasWritten {O E : Type 0} (taken : O → Option (List ℕ)) (faults : O → ℕ)
    (out_before out_after : O) (err_before err_after : E) (bytes : List ℕ) (answer : Answer)
    (outcome : Outcome) : Type 0 where
  pub taken_all : Appends (taken out_before) (taken out_after) bytes
  pub unfailed : faults out_after ≡ faults out_before
  pub quiet : err_after ≡ err_before
  pub status : outcome.status ≡ status_for answer.values answer.refuted
  pub workers : outcome.workers ≡ answer.workers

-- A write of the bytes failed, and a front of them was taken.
pub record HasBroken {O E : Type 0} (taken : O → Option (List ℕ)) (faults : O → ℕ)
    (out_before out_after : O) (told : E → Option (List ℕ)) (misses : E → ℕ)
    (err_before err_after : E) (bytes : List ℕ) (answer : Answer) (outcome : Outcome) : Type 0 where
  pub front : TookFront (taken out_before) (taken out_after) bytes
  pub rose : Rose (faults out_before) (faults out_after)
  pub out_later : faults out_before ≤ faults out_after
  pub status : outcome.status ≡ stop_status WriteFault
  pub line : TookLine told misses err_before err_after (stop_line WriteFault)
  pub later : misses err_before ≤ misses err_after
  pub workers : outcome.workers ≡ answer.workers
