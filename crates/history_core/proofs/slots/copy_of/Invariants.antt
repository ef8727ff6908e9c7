use Rattle.std.proofs.Common.{◌≡◌, ◌++◌}
use Rattle.history_core.proofs.slots.copy_of.Given as goal

abbrev pub invariant-loop-name : goal.invariant-loop-name
invariant-loop-name l = l.copy ++ l.name-iterator ≡ l.list
