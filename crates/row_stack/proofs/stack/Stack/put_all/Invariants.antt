use Rattle.std.proofs.Common.{◌≡◌, ◌++◌, take}
use Rattle.row_stack.proofs.stack.Stack.put_all.Given as goal

abbrev pub invariant-loop-row : goal.invariant-loop-row
invariant-loop-row l =
    (l.self.items ≡ l.initial.self.items ++ take l.row-index l.rows)
    × (l.self.room ≡ l.initial.self.room)
