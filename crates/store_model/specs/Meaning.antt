-- What the words mean: the chains, the live rows with their contents and trees.
use Rattle.std.specs.Prelude.{◌≡◌, ◌≢◌, ◌⊎◌, ℕ, suc, ◌+◌, ◌<◌, ◌≤◌, Bool, true, false, List, [], ◌∷◌, length, get_or}
use Rattle.term_model.specs.Tree.{Tree, Trees, Node, End, More}
use Rattle.store_model.specs.Words.{RowWords}
use Rattle.store_model.specs.Calls.{Content, words_of, IsOver, bucket}
use Rattle.store_model.specs.Machine.{Sizes, Each, In}

pub record Meaning : Type 0 where
  pub chain : ℕ → List ℕ
  pub live : ℕ → Bool
  pub content : ℕ → Content
  pub tree : ℕ → Tree

abbrev pub trees_at : (ℕ → Tree) → List ℕ → Trees
trees_at tree [] = End
trees_at tree (r ∷ rs) = More (tree r) (trees_at tree rs)

-- the tree of a content
abbrev pub grown : (ℕ → Tree) → Content → Tree
grown tree c = Node c.head (trees_at tree c.arguments)

-- the first k words of a row are those of c
abbrev pub Agrees : RowWords → Content → ℕ → Type 0
Agrees row c k = (m : ℕ) → m < k → row.content m ≡ get_or (words_of c) m 0

abbrev pub Matches : RowWords → Content → Type 0
Matches row c = Agrees row c (length (words_of c))

-- the words from `at` on are a chain of these rows
abbrev pub Linked : (ℕ → RowWords) → ℕ → List ℕ → Type 0
Linked row at [] = at ≡ 0
Linked row at (r ∷ rs) = (at ≡ suc r) × Linked row (row r).next rs

-- The first places hold different rows, and a row in none of them is live. Those from the claim on
-- aren't live.
pub record RowsApart (z : Sizes) (count claim : ℕ) (place : ℕ → ℕ) (live : ℕ → Bool) : Type 0 where
  pub few : count ≤ z.rows
  pub there : (i : ℕ) → i < count → place i < z.rows
  pub differ : (i j : ℕ) → i < count → j < count → place i ≡ place j → i ≡ j
  pub others : (r : ℕ) → r < z.rows → ((i : ℕ) → i < count → place i ≢ r) → live r ≡ true
  pub free : (i : ℕ) → claim ≤ i → i < count → live (place i) ≡ false

-- a row's argument is live and was born before it
pub record IsOlder (is_live : ℕ → Bool) (row : ℕ → RowWords) (born : ℕ) (a : ℕ) : Type 0 where
  pub live : is_live a ≡ true
  pub older : (row a).birth < born

-- a row of the chain b
pub record Stands (m : Meaning) (in_use : ℕ) (b : ℕ) (r : ℕ) : Type 0 where
  pub live : m.live r ≡ true
  pub bucket : bucket (m.content r) in_use ≡ b

-- Chains end and hold live rows alone, each in the chain of its bucket. A live row has a content
-- and a tree, its own alone.
pub record ChainsLinked (z : Sizes) (in_use : ℕ) (head : ℕ → ℕ) (row : ℕ → RowWords)
    (m : Meaning) : Type 0 where
  pub used : 0 < in_use
  pub within : in_use ≤ z.buckets
  pub linked : (b : ℕ) → Linked row (head b) (m.chain b)
  pub standing : (b : ℕ) → Each (Stands m in_use b) (m.chain b)
  pub beyond : (b : ℕ) → in_use ≤ b → m.chain b ≡ []
  pub present : (r : ℕ) → m.live r ≡ true → In r (m.chain (bucket (m.content r) in_use))
  pub below : (r : ℕ) → m.live r ≡ true → r < z.rows
  pub over : (r : ℕ) → m.live r ≡ true → IsOver (m.content r).head (m.content r).arguments
  pub words : (r : ℕ) → m.live r ≡ true → Matches (row r) (m.content r)
  pub arguments : (r : ℕ) → m.live r ≡ true
      → Each (IsOlder m.live row (row r).birth) (m.content r).arguments
  pub trees : (r : ℕ) → m.live r ≡ true → m.tree r ≡ grown m.tree (m.content r)
  pub differ : (r q : ℕ) → m.live r ≡ true → m.live q ≡ true → m.tree r ≡ m.tree q → r ≡ q

-- a live row was born before this base, or its number is the base and the index of its place
abbrev pub IsBorn : (base count : ℕ) → (ℕ → ℕ) → ℕ → ℕ → Type 0
IsBorn base count place r birth =
    (birth < base) ⊎ ((i : ℕ) × (i < count) × (place i ≡ r) × (birth ≡ base + i))
