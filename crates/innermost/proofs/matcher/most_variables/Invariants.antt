use Rattle.std.proofs.Common.{ℕ, ◌<◌, ◌≤◌, length}
use Rattle.rule_automaton.specs.Shapes.{variables_at}
use Rattle.rule_automaton.specs.Running.{made}
use Rattle.innermost.proofs.matcher.most_variables.Given as goal

abbrev pub invariant-loop-rule : goal.invariant-loop-rule
invariant-loop-rule l = (r : ℕ) → r < l.rule → length (variables_at (made l.automaton).shapes r) ≤ l.most
