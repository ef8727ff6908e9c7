use Rattle.std.proofs.Common.{◌≡◌}
use Rattle.rule_automaton.specs.Shapes.{numbers}
use Rattle.rule_automaton.proofs.shapes.numbers_below.Given as goal

abbrev pub invariant-loop-number : goal.invariant-loop-number
invariant-loop-number l = l.all.items ≡ numbers 0 l.number
