use Rattle.std.proofs.Common.{◌≡◌, take}
use Rattle.plain_store.specs.Hash.{hash_by}
use Rattle.plain_store.proofs.hashing.hash_rows.Given as goal

abbrev pub invariant-loop-row : goal.invariant-loop-row
invariant-loop-row l = l.mixed ≡ hash_by l.fn.hash (take l.row-index l.rows)
