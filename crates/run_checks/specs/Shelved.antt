-- A table of terms: its records are different symbols over records before them.
use Rattle.std.specs.Prelude.{◌≡◌, ◌≤◌, List, [], length, Bool, true, false, ◌&&◌, nat_lt}
use Rattle.symbol_pool.specs.Pool.{Named}
use Rattle.term_model.specs.declared.Head.{Head}
use Rattle.term_model.specs.declared.Head.TheVariants.{App, Int, Nil, Cons}
use Rattle.term_file.specs.Contents.{Record, trees}
use Rattle.term_file.specs.Right.{all_after, is_new_record}
use Rattle.term_file.specs.Tables.{has_lesser}
use Rattle.run_checks.specs.declared.table.TermTable.TheInside.{Inside}
use Rattle.run_checks.specs.Held.{Held}

abbrev pub is_symbol_of : List Named → Head → Bool
is_symbol_of names (App f) = nat_lt f.0 (length names)
is_symbol_of names (Int v) = false
is_symbol_of names Nil = false
is_symbol_of names Cons = false

abbrev pub is_shelved : List Named → List Record → Record → Bool
is_shelved names before r =
    is_symbol_of names r.head && (has_lesser before r && is_new_record before r)

pub record AreShelved (names : List Named) (records : List Record) : Type 0 where
  pub each : all_after (is_shelved names) [] records ≡ true
  pub few : length records ≤ 4294967295

abbrev pub held : Inside → Held
held s = record { symbols = s.symbols; terms = trees s.records }

abbrev pub IsTable : Inside → Type 0
IsTable s = AreShelved s.symbols s.records
