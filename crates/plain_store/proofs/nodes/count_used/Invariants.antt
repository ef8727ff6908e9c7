use Rattle.std.proofs.Common.{◌≡◌, ◌≤◌, take}
use Rattle.plain_store.specs.Slots.{some_count}
use Rattle.plain_store.proofs.nodes.count_used.Given as goal

abbrev pub invariant-loop-i : goal.invariant-loop-i
invariant-loop-i l = (l.used ≡ some_count (take l.i l.table.slots)) × (l.used ≤ l.i)
