use Rattle.row_sweep.specs.Gathered.{words_of}
use Rattle.row_sweep.proofs.Chains.{stands_by}
use Rattle.row_sweep.proofs.chaining.bucket_of_row.Goals as goal

pub returns-clause-stands : goal.returns-clause-stands
returns-clause-stands c = stands_by (words_of c.args.seat.now.seat) c.args.row c.hash_of_row-hash.result c.args.in_use c.bucket.result c.hash_of_row-hash.ensures.hash c.bucket.ensures.remainder
