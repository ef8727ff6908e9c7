use Rattle.std.proofs.Common.{◌≡◌, take}
use Rattle.plain_store.proofs.table.same_rows.Given as goal

-- the rows before are the same
abbrev pub invariant-loop-i : goal.invariant-loop-i
invariant-loop-i l = take l.i l.rows ≡ take l.i l.others
