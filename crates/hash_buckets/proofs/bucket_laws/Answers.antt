use Rattle.std.proofs.Common.{arith}
use Rattle.hash_buckets.specs.Hash.{bucket_of}
use Rattle.hash_buckets.proofs.bucket_laws.Goals as goal

pub returns-clause-below : goal.returns-clause-below
unfolding bucket_of
returns-clause-below c = λ f rows in_use used. omega arith
