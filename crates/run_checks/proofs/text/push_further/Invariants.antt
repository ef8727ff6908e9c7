use Rattle.std.proofs.Common.{◌≡◌, ◌≤◌, ◌++◌, drop, length}
use Rattle.run_checks.specs.Pieces.{further}
use Rattle.run_checks.proofs.text.push_further.Given as goal

-- the arguments from a place on are on the stack
abbrev pub invariant-places : goal.invariant-places
invariant-places l = record {
  within : l.place ≤ length l.arguments;
  pushed : l.pieces.items ≡ l.fn.pieces.items ++ further (drop l.place l.arguments);
}

abbrev pub decreases-places : goal.decreases-places
decreases-places l = l.place
