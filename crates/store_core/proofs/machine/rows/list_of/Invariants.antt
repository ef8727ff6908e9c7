use Rattle.std.proofs.Common.{◌≡◌, take}
use Rattle.store_core.proofs.machine.rows.list_of.Given as goal

abbrev pub invariant-loop-row : goal.invariant-loop-row
invariant-loop-row l = l.list ≡ take l.row-index l.rows
