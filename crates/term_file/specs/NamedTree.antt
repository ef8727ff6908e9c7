-- A tree with the names of its symbols in place of their numbers. Two terms are the same where
-- these are.
use Rattle.std.specs.Prelude.{◌≡◌, ℕ, List, map, slice_get, Option}
use Rattle.term_model.specs.Tree.{Tree, Leaf, Node, Trees, End, More}
use Rattle.term_model.specs.declared.Head.{Head}
use Rattle.term_model.specs.declared.Head.TheVariants.{App, Int, Nil, Cons}
use Rattle.symbol_pool.specs.Pool.{Named}

pub data NamedHead : Type 0 where
  Called : Option Named → NamedHead
  Integer : ℕ → NamedHead
  Empty : NamedHead
  Cell : NamedHead

mutual
  pub data NamedTree : Type 0 where
    Variable : ℕ → NamedTree
    Over : NamedHead → NamedTrees → NamedTree

  pub data NamedTrees : Type 0 where
    None_more : NamedTrees
    One_more : NamedTree → NamedTrees → NamedTrees

abbrev pub named_head : List Named → Head → NamedHead
named_head names (App f) = Called (slice_get names f.0)
named_head names (Int v) = Integer v
named_head names Nil = Empty
named_head names Cons = Cell

abbrev mutual
  pub named_tree : List Named → Tree → NamedTree
  named_tree names (Leaf x) = Variable x
  named_tree names (Node h ts) = Over (named_head names h) (named_trees names ts)

  pub named_trees : List Named → Trees → NamedTrees
  named_trees names End = None_more
  named_trees names (More t ts) = One_more (named_tree names t) (named_trees names ts)

-- trees over these names are, in order, the same terms as those over others
abbrev pub AreSame : List Named → List Tree → List Named → List Tree → Type 0
AreSame names ts others us = map (named_tree names) ts ≡ map (named_tree others) us
