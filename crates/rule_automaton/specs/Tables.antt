-- What a table of places has.
use Rattle.std.specs.HashMap.{get}
use Rattle.rule_automaton.specs.Places.{Tabled, same_key}
use Rattle.rule_automaton.specs.declared.table.Table.{Table}

abbrev pub tabled : Table → Tabled
tabled t = record {
  base_of = λ place count. get same_key t.bases (place, count);
  places = t.places;
}
