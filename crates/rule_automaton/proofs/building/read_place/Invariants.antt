use Rattle.std.proofs.Common.{◌≡◌, ◌+◌, ◌≤◌, length, take}
use Rattle.rule_automaton.specs.Places.{Tabled}
use Rattle.rule_automaton.specs.Automata.{AreStates}
use Rattle.rule_automaton.specs.Running.{made}
use Rattle.rule_automaton.specs.Building.{AreBased, Partway}
use Rattle.rule_automaton.proofs.building.read_place.Given as goal

-- the words before a place have their ways
abbrev pub invariant-loop-word : goal.invariant-loop-word
invariant-loop-word l =
    record {
      shapes : (made l.automaton).shapes ≡ (made l.initial.automaton).shapes;
      count : length l.automaton.states.items ≡ length l.initial.automaton.states.items + l.word-index;
      within : l.word-index ≤ length l.word-items;
      partway : (table : Tabled) → AreStates table (made l.initial.automaton) → AreBased table l.initial.automaton.shapes.items → Partway table (made l.initial.automaton) (made l.automaton) l.rules l.place l.first (take l.word-index l.word-items);
    }
