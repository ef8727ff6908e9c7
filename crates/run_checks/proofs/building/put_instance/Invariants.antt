use Rattle.std.proofs.Common.{take}
use Rattle.run_checks.proofs.Instancing.{Reached}
use Rattle.run_checks.proofs.building.put_instance.Given as goal

abbrev pub invariant-loop-item : goal.invariant-loop-item
invariant-loop-item l = Reached l.fn.table l.table l.bound (take l.item-index l.item-items) l.stack.items
