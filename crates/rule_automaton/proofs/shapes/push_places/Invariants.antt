use Rattle.std.proofs.Common.{◌≡◌, ◌+◌, ◌-◌, ◌≤◌, ◌++◌}
use Rattle.std.specs.Prelude.{reverse}
use Rattle.rule_automaton.specs.Shapes.{numbers}
use Rattle.rule_automaton.proofs.shapes.push_places.Given as goal

-- the places from some on are put, the last one first
abbrev pub invariant-places : goal.invariant-places
invariant-places l =
    record {
      within : l.left ≤ l.count;
      put : l.stack.items ≡ l.initial.stack.items ++ reverse (numbers (l.base + l.left) (l.count - l.left));
    }

abbrev pub decreases-places : goal.decreases-places
decreases-places l = l.left
