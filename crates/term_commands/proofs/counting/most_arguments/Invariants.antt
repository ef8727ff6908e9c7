use Rattle.std.proofs.Common.{◌≤◌, All, take}
use Rattle.term_model.specs.Postorder.{arity_of}
use Rattle.term_commands.proofs.counting.most_arguments.Given as goal

abbrev pub invariant-loop-item : goal.invariant-loop-item
invariant-loop-item l = All (λ i. arity_of i ≤ l.most) (take l.item-index l.items)
