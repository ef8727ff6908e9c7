-- Hashes and buckets that the check computes: those of three constants.
use Rattle.std.specs.Prelude.{◌≡◌, ℕ, []}
use Rattle.term_model.specs.declared.Head.TheVariants.{App}
use Rattle.hash_buckets.specs.Hash.{hash_of, bucket_of}

-- the constant of this number has this hash, and this bucket of four
pub record HasHash (symbol hash bucket : ℕ) : Type 0 where
  pub hashed : hash_of (App (record { 0 = symbol })) [] ≡ hash
  pub stands : bucket_of (App (record { 0 = symbol })) [] 4 ≡ bucket
