use Rattle.std.proofs.Common.{refl}
use Rattle.hash_buckets.specs.Hash.{hash_of, bucket_of}
use Rattle.hash_buckets.proofs.worked_hashes.Goals as goal

pub returns-clause-zero : goal.returns-clause-zero
unfolding hash_of bucket_of
returns-clause-zero c = record { hashed = refl; stands = refl }

pub returns-clause-one : goal.returns-clause-one
unfolding hash_of bucket_of
returns-clause-one c = record { hashed = refl; stands = refl }

pub returns-clause-two : goal.returns-clause-two
unfolding hash_of bucket_of
returns-clause-two c = record { hashed = refl; stands = refl }
