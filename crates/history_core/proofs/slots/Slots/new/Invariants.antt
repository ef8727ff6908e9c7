use Rattle.std.proofs.Common.{◌≡◌, None, replicate}
use Rattle.history_core.proofs.slots.Slots.new.Given as goal

abbrev pub invariant-loop-name : goal.invariant-loop-name
invariant-loop-name l = l.terms.items ≡ replicate l.name None
