use Rattle.std.proofs.Common.{◌≡◌, map}
use Rattle.store_core.proofs.machine.rows.rows_of.Given as goal

abbrev pub invariant-loop-row : goal.invariant-loop-row
invariant-loop-row l = l.rows.items ≡ map (λ row. row.now) l.yielded
