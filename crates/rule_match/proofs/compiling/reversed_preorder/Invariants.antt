use Rattle.std.proofs.Common.{◌+◌, ◌≤◌, length, take}
use Rattle.rule_match.proofs.Waiting.{IsUnderWay}
use Rattle.rule_match.proofs.compiling.reversed_preorder.Given as goal

-- what is put is the end of the pattern in preorder
abbrev pub invariant-items : goal.invariant-items
invariant-items l =
    record {
      within : l.before ≤ length l.items;
      way : IsUnderWay l.pattern (take l.before l.items) l.waiting.items l.put.items;
    }

-- an item that is to come is read once, and an item that waits is put once
abbrev pub decreases-items : goal.decreases-items
decreases-items l = l.before + l.before + length l.waiting.items
