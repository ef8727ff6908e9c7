use Rattle.std.proofs.Common.{◌≤◌, All, take}
use Rattle.term_model.specs.Tree.{nodes}
use Rattle.term_commands.proofs.counting.most_nodes.Given as goal

abbrev pub invariant-loop-term : goal.invariant-loop-term
invariant-loop-term l = All (λ t. nodes t ≤ l.most) (take l.term-index l.terms)
