-- The left sides of rules as lists of items, each head before its arguments.
use Rattle.std.specs.Prelude.{◌≡◌, ℕ, zero, suc, ◌+◌, List, [], ◌∷◌, ◌++◌, length}
use Rattle.term_model.specs.Tree.{Tree, Leaf, Node, Trees, End, More, count_of}
use Rattle.term_model.specs.Postorder.{item_of}
use Rattle.term_model.specs.declared.Item.{Item}
use Rattle.term_model.specs.declared.Item.TheVariants.{Var}
use Rattle.rewrite_model.specs.Rule.{Rule}

-- a head, and then its arguments from left to right
abbrev mutual
  pub preorder : Tree → List Item
  preorder (Leaf x) = Var x ∷ []
  preorder (Node h ts) = item_of h (count_of ts) ∷ preorder_all ts

  pub preorder_all : Trees → List Item
  preorder_all End = []
  preorder_all (More t ts) = preorder t ++ preorder_all ts

-- the left side of the rule at a place; a variable past the last rule
abbrev pub left_at : List Rule → ℕ → Tree
left_at [] k = Leaf 0
left_at (r ∷ rs) zero = r.left
left_at (r ∷ rs) (suc k) = left_at rs k

-- the items of all left sides, in the order of the rules
abbrev pub left_items : List Rule → List Item
left_items [] = []
left_items (r ∷ rs) = preorder r.left ++ left_items rs

-- where the items of each left side begin, and where those of the last one end
abbrev pub left_starts : ℕ → List Rule → List ℕ
left_starts n [] = n ∷ []
left_starts n (r ∷ rs) = n ∷ left_starts (n + length (preorder r.left)) rs

-- all left sides in preorder, and where each begins
pub record IsCompiled (rules : List Rule) (items : List Item) (starts : List ℕ) : Type 0 where
  pub in_order : items ≡ left_items rules
  pub begins : starts ≡ left_starts 0 rules
