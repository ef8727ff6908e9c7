use Rattle.std.proofs.Common.{◌≡◌, ◌<◌, ℕ, length}
use Rattle.rule_match.specs.Preorder.{left_at}
use Rattle.rule_automaton.specs.Places.{IsTable}
use Rattle.rule_automaton.specs.Tables.{tabled}
use Rattle.rule_automaton.specs.Shapes.{IsShape, tests_at, pairs_at, variables_at}
use Rattle.rule_automaton.proofs.shapes.shapes_of.Given as goal

-- the rules before one have their shapes
abbrev pub invariant-loop-rule : goal.invariant-loop-rule
invariant-loop-rule l =
    record {
      table : IsTable (tabled l.table);
      size : length l.shapes.items ≡ l.rule;
      each : (r : ℕ) → r < length l.shapes.items → IsShape (tabled l.table) (left_at l.plan.rules r) (tests_at l.shapes.items r) (pairs_at l.shapes.items r) (variables_at l.shapes.items r);
    }
