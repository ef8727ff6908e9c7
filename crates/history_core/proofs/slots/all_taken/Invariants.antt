use Rattle.std.proofs.Common.{◌≡◌}
use Rattle.history_core.specs.Slots.{are_taken}
use Rattle.history_core.proofs.slots.all_taken.Given as goal

abbrev pub invariant-loop-name : goal.invariant-loop-name
invariant-loop-name l = are_taken l.slots l.name-iterator ≡ are_taken l.slots l.names
