use Rattle.std.proofs.Common.{◌≤◌, ◌+◌, length, take}
use Rattle.std.specs.Prelude.{sum_by}
use Rattle.rule_automaton.specs.Shapes.{tests_at}
use Rattle.rule_automaton.proofs.asking.size_of.Given as goal

-- no more than the rules, and the tests of those before a place
abbrev pub invariant-loop-rule : goal.invariant-loop-rule
invariant-loop-rule l = l.size ≤ length l.rules + sum_by (λ r. length (tests_at l.shapes r)) (take l.rule-index l.rules)
