-- The parts of a file as one value.
use Rattle.std.specs.Prelude.{ℕ, List}
use Rattle.symbol_pool.specs.Pool.{Named}
use Rattle.term_file.specs.Contents.{Record, Contents}
use Rattle.term_file.specs.Reading.{Roots}

abbrev pub contents_of_parts : List Named → List Record → List ℕ → Contents
contents_of_parts symbols records roots =
    record { symbols = symbols; records = records; roots = roots }

abbrev pub roots_of : List ℕ → ℕ → Roots
roots_of roots visited = record { roots = roots; visited = visited }
