use Rattle.std.proofs.Common.{◌≡◌, ◌++◌, ◌∷◌, ◌≤◌, length, drop}
use Rattle.tree_text.specs.Canonical.{escaped}
use Rattle.tree_text.proofs.writer.put_quoted.Given as goal

abbrev pub invariant-loop-at : goal.invariant-loop-at
invariant-loop-at l = (l.at ≤ length l.name) × (l.text ≡ escaped (drop l.at l.name) ++ 34 ∷ l.fn.text)

abbrev pub decreases-loop-at : goal.decreases-loop-at
decreases-loop-at l = l.at
