-- The own list of a pass: the rows of which it knows words, each with the tree that its entries
-- tell.
use Rattle.std.specs.Prelude.{◌≡◌, ℕ, ◌<◌, ◌≤◌, ◌==◌, Bool, true, false, if◌then◌else◌, Option, Some, None, List, [], ◌∷◌, length}
use Rattle.term_model.specs.Tree.{Tree, arguments, IsWellFormed}
use Rattle.store_model.specs.declared.view.Sizes.{Sizes}
use Rattle.store_model.specs.declared.view.View.{View}
use Rattle.store_model.specs.declared.view.KnownWord.{KnownWord}
use Rattle.store_model.specs.Machine.{Each, In, widest, protected_in}
use Rattle.store_model.specs.ByView.{KnowsWord}
use Rattle.node_rows.specs.Knowing.{KnowsTree}
use Rattle.store_model.specs.Told.{told}

-- one of these words is a word of row r
abbrev pub names : ℕ → List KnownWord → Bool
names r [] = false
names r (x ∷ xs) = if x.row == r then true else names r xs

-- the tree of row r by the entries of the pass
abbrev pub tree_in : View → ℕ → Tree
tree_in v r = (told v.entries).tree r

-- the own list
abbrev pub held_in : View → ℕ → Option Tree
held_in v r = if names r v.knows then Some (tree_in v r) else None

-- it has row r
abbrev pub Has : View → ℕ → Type 0
Has v r = names r v.knows ≡ true

-- The pass may use row r, knows all its words and those of the rows under it, and its entries tell
-- the same tree, which a row has room for.
pub record IsOwn (z : Sizes) (v : View) (r : ℕ) : Type 0 where
  pub known : KnowsTree v.knows r (tree_in v r)
  pub uses : In r v.got
  pub below : r < z.rows
  pub formed : IsWellFormed (tree_in v r)
  pub width : length (arguments (tree_in v r)) ≤ widest z

-- each word has one value
abbrev pub IsOnce : List KnownWord → Type 0
IsOnce ks = (r k m n : ℕ) → KnowsWord r k m ks → KnowsWord r k n ks → m ≡ n

-- and each tree one row
abbrev pub HasOneRow : List KnownWord → Type 0
HasOneRow ks = (r q : ℕ) (t : Tree) → KnowsTree ks r t → KnowsTree ks q t → r ≡ q

-- The own list is whole: it has no row of which less is known, and it has the rows that the pass
-- protects.
pub record IsWhole (z : Sizes) (v : View) : Type 0 where
  pub rows : (r : ℕ) → Has v r → IsOwn z v r
  pub once : IsOnce v.knows
  pub one_row : HasOneRow v.knows
  pub protects : Each (Has v) (protected_in v)
  pub few : length (protected_in v) ≤ z.depth

-- From v to w the pass has forgotten rows, and not those that it protects: of a row of which it
-- knows a word still, it knows still all that it knew.
pub record Forgets (v w : View) : Type 0 where
  pub knows : (r k n : ℕ) → KnowsWord r k n w.knows → KnowsWord r k n v.knows
  pub trees : (r : ℕ) (t : Tree) → Has w r → KnowsTree v.knows r t → KnowsTree w.knows r t
  pub uses : (r : ℕ) → Has w r → In r w.got
  pub protects : Each (Has v) (protected_in v) → Each (Has w) (protected_in v)
