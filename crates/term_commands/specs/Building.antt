-- Making trees of the items of terms: each item takes the last trees, and puts one in their place.
use Rattle.std.specs.Prelude.{◌≡◌, ℕ, ◌≤◌, List, [], ◌∷◌, ◌++◌, length, true, All}
use Rattle.term_model.specs.declared.Head.{Head}
use Rattle.term_model.specs.declared.Item.{Item}
use Rattle.term_model.specs.Tree.{Tree, Node, trees_of, may_stand_over}
use Rattle.term_model.specs.Postorder.{item_of, arity_of, postorder}

-- the item is that of a head over the last of these trees
pub record Takes (item : Item) (trees : List Tree) : Type 0 where
  pub head : Head
  pub before : List Tree
  pub arguments : List Tree
  pub item_is : item ≡ item_of head (length arguments)
  pub trees_are : trees ≡ before ++ arguments
  pub may : may_stand_over head (trees_of arguments) ≡ true

-- the trees when it has taken them
abbrev pub after : {item : Item} {trees : List Tree} → Takes item trees → List Tree
after k = k.before ++ Node k.head (trees_of k.arguments) ∷ []

-- the items, one after another, make the last trees of the first
abbrev pub Make : List Item → List Tree → List Tree → Type 0
Make [] trees last = trees ≡ last
Make (i ∷ is) trees last = (k : Takes i trees) × Make is (after k) last

-- each node has at most so many arguments
abbrev pub IsNarrow : ℕ → Tree → Type 0
IsNarrow widest t = All (λ i. arity_of i ≤ widest) (postorder t)
