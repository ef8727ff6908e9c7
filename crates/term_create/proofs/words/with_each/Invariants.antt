use Rattle.std.proofs.Common.{◌≡◌, drop}
use Rattle.hash_buckets.specs.Hash.{mixed_all}
use Rattle.node_rows.specs.Rows.{names}
use Rattle.term_create.proofs.words.with_each.Given as goal

abbrev pub invariant-loop-row : goal.invariant-loop-row
invariant-loop-row l = mixed_all l.hash (names (drop l.row-index l.rows)) ≡ mixed_all l.first (names l.rows)
