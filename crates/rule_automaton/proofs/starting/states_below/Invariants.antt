use Rattle.std.proofs.Common.{◌≡◌, map}
use Rattle.rule_automaton.specs.Shapes.{numbers}
use Rattle.rule_automaton.specs.Starting.{in_turn_from}
use Rattle.rule_automaton.proofs.starting.states_below.Given as goal

abbrev pub invariant-loop-from : goal.invariant-loop-from
invariant-loop-from l = l.states.items ≡ map (in_turn_from l.count) (numbers 0 l.from)
