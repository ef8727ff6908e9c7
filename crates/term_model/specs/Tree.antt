-- A term is a tree: a head over a list of trees. A pattern is a tree with variables at leaves.
use Rattle.std.specs.Prelude.{◌≡◌, ℕ, ◌+◌, List, [], ◌∷◌, ◌++◌, Bool, true, false, ◌&&◌, ◌==◌, if◌then◌else◌, Option, Some, None}
use Rattle.term_model.specs.declared.Head.{Head}
use Rattle.term_model.specs.declared.Head.TheVariants.{App, Int, Nil, Cons}

mutual
  pub data Tree : Type 0 where
    Leaf : ℕ → Tree
    Node : Head → Trees → Tree

  pub data Trees : Type 0 where
    End : Trees
    More : Tree → Trees → Trees

-- how many trees
abbrev pub count_of : Trees → ℕ
count_of End = 0
count_of (More t ts) = count_of ts + 1

-- the trees as a list
abbrev pub list_of : Trees → List Tree
list_of End = []
list_of (More t ts) = t ∷ list_of ts

abbrev pub trees_of : List Tree → Trees
trees_of [] = End
trees_of (t ∷ ts) = More t (trees_of ts)

-- the trees under the root
abbrev pub arguments : Tree → List Tree
arguments (Leaf x) = []
arguments (Node h ts) = list_of ts

-- the head at the root, where it is no variable
abbrev pub root : Tree → Option Head
root (Leaf x) = None
root (Node h ts) = Some h

-- one node for the root, and those of the arguments
abbrev mutual
  pub nodes : Tree → ℕ
  nodes (Leaf x) = 1
  nodes (Node h ts) = nodes_all ts + 1

  pub nodes_all : Trees → ℕ
  nodes_all End = 0
  nodes_all (More t ts) = nodes t + nodes_all ts

-- the tree itself, and the subtrees of its arguments
abbrev mutual
  pub subtrees : Tree → List Tree
  subtrees (Leaf x) = Leaf x ∷ []
  subtrees (Node h ts) = Node h ts ∷ subtrees_all ts

  pub subtrees_all : Trees → List Tree
  subtrees_all End = []
  subtrees_all (More t ts) = subtrees t ++ subtrees_all ts

-- whether two heads are equal
abbrev pub head_eq : Head → Head → Bool
head_eq (App f) (App g) = f.0 == g.0
head_eq (Int m) (Int n) = m == n
head_eq Nil Nil = true
head_eq Cons Cons = true
head_eq _ _ = false

-- whether two trees are equal
abbrev mutual
  pub tree_eq : Tree → Tree → Bool
  tree_eq (Leaf x) (Leaf y) = x == y
  tree_eq (Leaf x) (Node g us) = false
  tree_eq (Node h ts) (Leaf y) = false
  tree_eq (Node h ts) (Node g us) = head_eq h g && trees_eq ts us

  pub trees_eq : Trees → Trees → Bool
  trees_eq End End = true
  trees_eq End (More u us) = false
  trees_eq (More t ts) End = false
  trees_eq (More t ts) (More u us) = tree_eq t u && trees_eq ts us

-- whether a tree is one of a list
abbrev pub among : Tree → List Tree → Bool
among t [] = false
among t (u ∷ us) = if tree_eq t u then true else among t us

-- how many different trees a list has
abbrev pub distinct : List Tree → ℕ
distinct [] = 0
distinct (t ∷ ts) = if among t ts then distinct ts else distinct ts + 1

-- whether a tree may stand where a list must: a variable, the empty list or a cell
abbrev pub may_be_list : Tree → Bool
may_be_list (Leaf x) = true
may_be_list (Node (App f) ts) = false
may_be_list (Node (Int n) ts) = false
may_be_list (Node Nil ts) = true
may_be_list (Node Cons ts) = true

abbrev pub is_none : Trees → Bool
is_none End = true
is_none (More t ts) = false

abbrev pub is_tree_and_list : Trees → Bool
is_tree_and_list (More t (More u End)) = may_be_list u
is_tree_and_list _ = false

-- a symbol may stand over any trees, an integer and the empty list over none, and a cell over a
-- tree and a list
abbrev pub may_stand_over : Head → Trees → Bool
may_stand_over (App f) ts = true
may_stand_over (Int n) ts = is_none ts
may_stand_over Nil ts = is_none ts
may_stand_over Cons ts = is_tree_and_list ts

-- each head stands over what it may
abbrev mutual
  pub is_well_formed : Tree → Bool
  is_well_formed (Leaf x) = true
  is_well_formed (Node h ts) = may_stand_over h ts && all_well_formed ts

  pub all_well_formed : Trees → Bool
  all_well_formed End = true
  all_well_formed (More t ts) = is_well_formed t && all_well_formed ts

abbrev pub IsWellFormed : Tree → Type 0
IsWellFormed t = is_well_formed t ≡ true

-- there is no variable in it
abbrev mutual
  pub is_ground : Tree → Bool
  is_ground (Leaf x) = false
  is_ground (Node h ts) = all_ground ts

  pub all_ground : Trees → Bool
  all_ground End = true
  all_ground (More t ts) = is_ground t && all_ground ts

abbrev pub IsGround : Tree → Type 0
IsGround t = is_ground t ≡ true
