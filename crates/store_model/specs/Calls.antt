-- What a seat has under way, and what it keeps.
use Rattle.std.specs.Prelude.{◌≡◌, ℕ, ◌<◌, List, [], length}
use Rattle.std.proofs.Common.{arith}
use Rattle.hash_buckets.specs.Spelled.{spelled}
use Rattle.hash_buckets.specs.Hash.{bucket_of}
use Rattle.term_model.specs.declared.Head.{Head}
use Rattle.term_model.specs.declared.Head.TheVariants.{App, Int, Nil, Cons}
pub use Rattle.store_model.specs.declared.view.Content.{Content}
pub use Rattle.store_model.specs.declared.view.Call.{Call}
pub use Rattle.store_model.specs.declared.view.Call.TheVariants.{Idle, Comparing, Passing, Finding, Ended, Counting, Drawing, Placing, Filling, Numbering, Linking, Publishing, Loading, Storing}
pub use Rattle.store_model.specs.declared.view.Stay.{Stay}
pub use Rattle.store_model.specs.declared.view.Stay.TheVariants.{Away, Based, Ready, Leaving}
pub use Rattle.store_model.specs.declared.view.KnownWord.{KnownWord}
pub use Rattle.store_model.specs.declared.view.Passed.{Passed}
pub use Rattle.store_model.specs.declared.view.Refusal.{Refusal}
pub use Rattle.store_model.specs.declared.view.View.{View}

-- the words that it has in a row: the symbol word, the count of arguments, and the arguments, or an
-- integer's value
abbrev pub words_of : Content → List ℕ
words_of c = spelled c.head c.arguments

-- what a head may stand over
abbrev pub IsOver : Head → List ℕ → Type 0
IsOver (App f) rs = f.0 < 4294967296
IsOver (Int v) rs = rs ≡ []
IsOver Nil rs = rs ≡ []
IsOver Cons rs = length rs ≡ 2

-- the bucket of a content, of u in use
abbrev pub bucket : Content → ℕ → ℕ
bucket c u = bucket_of c.head c.arguments u

pub bucket_below : (c : Content) (u : ℕ) → 0 < u → bucket c u < u
unfolding bucket_of
bucket_below c u l = omega arith
