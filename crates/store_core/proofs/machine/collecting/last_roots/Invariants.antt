use Rattle.std.proofs.Common.{◌≡◌, [], map}
use Rattle.history_core.specs.Chronicle.{last_roots}
use Rattle.store_core.proofs.machine.collecting.last_roots.Given as goal

abbrev pub invariant-loop-entry : goal.invariant-loop-entry
invariant-loop-entry l = l.last.items ≡ last_roots [] (map (λ entry. entry.now) l.yielded)
