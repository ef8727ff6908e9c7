-- A tree as a list of items, each head after its arguments.
use Rattle.std.specs.Prelude.{ℕ, zero, suc, List, [], ◌∷◌, ◌++◌, Option, Some, None, option_and_then, if◌then◌else◌, Bool, is_some}
use Rattle.term_model.specs.Tree.{Tree, Leaf, Node, Trees, End, More, count_of, may_be_list}
use Rattle.term_model.specs.declared.Head.{Head}
use Rattle.term_model.specs.declared.Head.TheVariants as head
use Rattle.term_model.specs.declared.Item.{Item}
use Rattle.term_model.specs.declared.Item.TheVariants.{Var, App, Int, Nil, Cons}

-- the item of a head over n trees
abbrev pub item_of : Head → ℕ → Item
item_of (head.App f) n = App f n
item_of (head.Int v) n = Int v
item_of head.Nil n = Nil
item_of head.Cons n = Cons

-- the head of an item, and how many trees it takes
abbrev pub head_of : Item → Option Head
head_of (Var x) = None
head_of (App f n) = Some (head.App f)
head_of (Int v) = Some (head.Int v)
head_of Nil = Some head.Nil
head_of Cons = Some head.Cons

abbrev pub has_head : Item → Bool
has_head i = is_some (head_of i)

abbrev pub arity_of : Item → ℕ
arity_of (Var x) = 0
arity_of (App f n) = n
arity_of (Int v) = 0
arity_of Nil = 0
arity_of Cons = 2

abbrev mutual
  pub postorder : Tree → List Item
  postorder (Leaf x) = Var x ∷ []
  postorder (Node h ts) = postorder_all ts ++ item_of h (count_of ts) ∷ []

  pub postorder_all : Trees → List Item
  postorder_all End = []
  postorder_all (More t ts) = postorder t ++ postorder_all ts

-- Items build trees on a stack. A symbol takes the last trees from it.
abbrev pub take_trees : ℕ → List Tree → Trees → Option (Trees × List Tree)
take_trees zero stack taken = Some (taken, stack)
take_trees (suc n) [] taken = None
take_trees (suc n) (t ∷ stack) taken = take_trees n stack (More t taken)

abbrev pub push_over : Head → Option (Trees × List Tree) → Option (List Tree)
push_over h None = None
push_over h (Some r) = Some (Node h r.0 ∷ r.1)

-- a cell takes a list and the tree before it
abbrev pub push_cell : List Tree → Option (List Tree)
push_cell [] = None
push_cell (u ∷ []) = None
push_cell (u ∷ t ∷ stack) =
    if may_be_list u then Some (Node head.Cons (More t (More u End)) ∷ stack) else None

abbrev pub push_item : Item → List Tree → Option (List Tree)
push_item (Var x) stack = Some (Leaf x ∷ stack)
push_item (App f n) stack = push_over (head.App f) (take_trees n stack End)
push_item (Int v) stack = Some (Node (head.Int v) End ∷ stack)
push_item Nil stack = Some (Node head.Nil End ∷ stack)
push_item Cons stack = push_cell stack

abbrev pub push_items : List Item → List Tree → Option (List Tree)
push_items [] stack = Some stack
push_items (i ∷ is) stack = option_and_then (λ s. push_items is s) (push_item i stack)

abbrev pub only_one : Option (List Tree) → Option Tree
only_one None = None
only_one (Some []) = None
only_one (Some (t ∷ [])) = Some t
only_one (Some (t ∷ u ∷ us)) = None

-- the tree that the items spell, where they spell one
abbrev pub tree_of : List Item → Option Tree
tree_of is = only_one (push_items is [])

-- the tree, or a variable where there is none
abbrev pub tree_or_leaf : Option Tree → Tree
tree_or_leaf None = Leaf 0
tree_or_leaf (Some t) = t
