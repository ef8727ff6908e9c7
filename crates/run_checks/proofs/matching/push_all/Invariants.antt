use Rattle.std.proofs.Common.{◌≡◌, ◌≤◌, ◌++◌, drop, length}
use Rattle.std.specs.Prelude.{reverse}
use Rattle.run_checks.proofs.matching.push_all.Given as goal

-- the numbers from a place on are on the stack
abbrev pub invariant-places : goal.invariant-places
invariant-places l = record {
  within : l.place ≤ length l.numbers;
  pushed : l.stack.items ≡ l.fn.stack.items ++ reverse (drop l.place l.numbers);
}

abbrev pub decreases-places : goal.decreases-places
decreases-places l = l.place
