use Rattle.std.proofs.Common.{◌≡◌, map}
use Rattle.hash_buckets.specs.Hash.{mixed_all}
use Rattle.store_core.proofs.machine.contents.with_rows.Given as goal

abbrev pub invariant-loop-row : goal.invariant-loop-row
invariant-loop-row l = l.hash ≡ mixed_all l.first (map (λ row. row.now) l.yielded)
