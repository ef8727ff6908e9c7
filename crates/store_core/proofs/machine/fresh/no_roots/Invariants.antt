use Rattle.std.proofs.Common.{◌≡◌, replicate}
use Rattle.store_core.proofs.machine.fresh.no_roots.Given as goal

abbrev pub invariant-loop-k : goal.invariant-loop-k
invariant-loop-k l = l.roots ≡ replicate l._k 0
