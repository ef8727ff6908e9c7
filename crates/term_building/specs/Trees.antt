-- The trees of the whole terms that were read, and that nothing is amiss with these terms.
use Rattle.std.specs.Prelude.{◌≡◌, ℕ, ◌≤◌, List, [], ◌∷◌, ◌++◌, map, length, nat_lt, true, false, Option, Some, None}
use Rattle.term_model.specs.Tree as tree
use Rattle.term_model.specs.Tree.{Tree, Node, may_be_list}
use Rattle.term_model.specs.declared.Head.TheVariants.{Nil, Cons}
use Rattle.symbol_pool.specs.Pool.{Named, named}
use Rattle.symbol_pool.specs.Taking.{has}
use Rattle.term_syntax.specs.TakenUp.{tree_in}
use Rattle.term_syntax.specs.Written.{Written, Call, Digits, Listed, Writtens, End, More, count_of}
use Rattle.term_building.specs.Progress.{Open}

-- a number has a value, as an integer up to 2^64 - 1 without a leading zero has
abbrev pub HasValue : Option ℕ → Type 0
HasValue (Some v) = Unit {0}
HasValue None = ⊥

-- each name with its number of arguments is a symbol of the pool, has at most 255 bytes and at most
-- 16 arguments, and each number has a value
abbrev mutual
  pub IsGood : List Named → Written → Type 0
  IsGood pool (Call p n ws) =
      (has pool (named n (count_of ws)) ≡ true) × (nat_lt 255 (length n) ≡ false)
      × (count_of ws ≤ 16) × AreGood pool ws
  IsGood pool (Digits p v) = HasValue v
  IsGood pool (Listed p ws) = AreGood pool ws

  pub AreGood : List Named → Writtens → Type 0
  AreGood pool End = Unit {0}
  AreGood pool (More w ws) = IsGood pool w × AreGood pool ws

-- nothing is amiss with these terms
abbrev pub AllGood : List Named → List Written → Type 0
AllGood pool [] = Unit {0}
AllGood pool (w ∷ ws) = IsGood pool w × AllGood pool ws

-- nothing is amiss with the whole terms so far
abbrev pub GoodSoFar : List Named → List Open → List Written → Type 0
GoodSoFar pool [] finished = AllGood pool finished
GoodSoFar pool (g ∷ gs) finished = GoodSoFar pool gs finished × AllGood pool g.terms

-- the trees so far, those outside all groups first
abbrev pub trees_so_far : List Named → List Open → List Written → List Tree
trees_so_far pool [] finished = map (tree_in pool) finished
trees_so_far pool (g ∷ gs) finished = trees_so_far pool gs finished ++ map (tree_in pool) g.terms

-- a list of trees as one tree
abbrev pub list_tree : List Tree → Tree
list_tree [] = Node Nil tree.End
list_tree (t ∷ ts) = Node Cons (tree.More t (tree.More (list_tree ts) tree.End))

-- a tree before a list, which come last
pub record Cell (ts : List Tree) : Type 0 where
  pub before : List Tree
  pub one : Tree
  pub rest : Tree
  pub is : ts ≡ before ++ one ∷ rest ∷ []
  pub list : may_be_list rest ≡ true

abbrev pub with_cell : {ts : List Tree} → Cell ts → List Tree
with_cell c = c.before ++ Node Cons (tree.More c.one (tree.More c.rest tree.End)) ∷ []
