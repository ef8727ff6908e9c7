use Rattle.std.proofs.Common.{◌≡◌, map, drop}
use Rattle.hash_buckets.specs.Hash.{mixed_all}
use Rattle.hash_buckets.proofs.with_rows.Given as goal

abbrev pub invariant-loop-row : goal.invariant-loop-row
invariant-loop-row l = mixed_all l.hash (map (λ row. row.0) (drop l.row-index l.rows)) ≡ mixed_all l.first (map (λ row. row.0) l.rows)
