-- The chains, and what a live row means.
use Rattle.std.specs.Prelude.{◌≡◌, ℕ, ◌<◌, ◌≤◌, true, ◌==◌}
use Rattle.std.specs.List.{IsDistinct}
use Rattle.term_model.specs.Tree.{Node, may_stand_over}
use Rattle.store_model.specs.Words.{Place, InUse, Bucket, row_at}
use Rattle.store_model.specs.Calls.{bucket}
use Rattle.store_model.specs.Machine.{Sizes, Each, In}
use Rattle.store_model.specs.Meaning.{Meaning, Matches, Linked, IsOlder, trees_at}

pub record ChainsSound (z : Sizes) (w : Place → ℕ) (m : Meaning) : Type 0 where
  -- chains end, and hold live rows alone
  pub ended : (b : ℕ) → Linked (row_at w) (w (Bucket b)) (m.chain b)
  pub live : (b : ℕ) → Each (λ r. m.live r ≡ true) (m.chain b)
  -- a live row stands once, in the chain of its bucket
  pub stands : (r : ℕ) → m.live r ≡ true → In r (m.chain (bucket (m.content r) (w InUse)))
  pub nowhere_else : (r b : ℕ) → In r (m.chain b) → b ≡ bucket (m.content r) (w InUse)
  pub once : (b : ℕ) → IsDistinct ◌==◌ (m.chain b)
  -- the buckets in use are some of them, and heads from there on are 0
  pub used : 0 < w InUse
  pub within : w InUse ≤ z.buckets
  pub beyond : (b : ℕ) → w InUse ≤ b → w (Bucket b) ≡ 0
  -- a live row's words are those of its content, its arguments are live and have lesser birth
  -- numbers, so it has a tree
  pub below : (r : ℕ) → m.live r ≡ true → r < z.rows
  pub words : (r : ℕ) → m.live r ≡ true → Matches (row_at w r) (m.content r)
  pub arguments : (r : ℕ) → m.live r ≡ true
      → Each (IsOlder m.live (row_at w) (row_at w r).birth) (m.content r).arguments
  pub trees : (r : ℕ) → m.live r ≡ true
      → m.tree r ≡ Node (m.content r).head (trees_at m.tree (m.content r).arguments)
  -- an integer and the empty list have no arguments, a cell has two, of which the second has a list
  -- as its tree
  pub formed : (r : ℕ) → m.live r ≡ true
      → may_stand_over (m.content r).head (trees_at m.tree (m.content r).arguments) ≡ true
  -- different live rows have different trees
  pub differ : (r q : ℕ) → m.live r ≡ true → m.live q ≡ true → m.tree r ≡ m.tree q → r ≡ q
