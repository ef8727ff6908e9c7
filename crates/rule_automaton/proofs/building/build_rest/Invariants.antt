use Rattle.rule_automaton.specs.Places.{Tabled}
use Rattle.rule_automaton.specs.Running.{made}
use Rattle.rule_automaton.specs.Building.{IsBuilt, IsGrown, ArePaid}
use Rattle.rule_automaton.proofs.building.build_rest.Given as goal

-- the states are right
abbrev pub invariant-loop-at : goal.invariant-loop-at
invariant-loop-at l =
    record {
      grown : (table : Tabled) → IsBuilt table (made l.initial.automaton) → IsGrown table (made l.initial.automaton) (made l.automaton);
      paid : ArePaid (made l.initial.automaton) l.initial.budget.states (made l.automaton) l.budget.states;
    }
