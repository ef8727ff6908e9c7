-- What the reader has found, without where it lies in memory.
use Rattle.std.specs.Prelude.{ℕ, List}
use Rattle.term_file.specs.declared.found.Found.{Found}
use Rattle.term_file.specs.declared.record.Record as declared
use Rattle.term_file.specs.Reading.{Body, Records}
use Rattle.term_file.specs.Outcome.{head_of}

abbrev pub records_of : Found → Records
records_of f = record { records = f.table; used = f.used }

abbrev pub body_of : declared.Record → List ℕ → List ℕ → Body
body_of r last rest =
    record { head = head_of r.kind; arguments = r.arguments.items; last = last; rest = rest }
