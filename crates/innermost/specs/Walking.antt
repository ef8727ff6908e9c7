-- A walk through a term for the first position that a rule matches.
use Rattle.std.specs.Prelude.{◌≡◌, ℕ, ◌+◌, ◌-◌, ◌*◌, ◌<◌, ◌≤◌, List, [], ◌∷◌, ◌++◌, length, drop, reverse, true, slice_index_or}
use Rattle.term_model.specs.Tree.{Tree, Node, Trees, More, count_of, nodes, arguments, subtrees, among}
use Rattle.term_model.specs.declared.Head.{Head}
use Rattle.term_model.specs.declared.Row.{Row}
use Rattle.terms_api.specs.Terms.{Store, HasTree, tree_at, but_last}
use Rattle.rewrite_model.specs.Rule.{Rule}
use Rattle.rewrite_model.specs.Run.{done, ends, ◌>>=◌, TooDeep}
use Rattle.rewrite_model.specs.Outermost.{Building, Stepped, Same, Changed, use_right, rebuild, step, step_all}
use Rattle.rule_match.specs.Planned.{Planned}
use Rattle.innermost.specs.declared.spots.Spot.{Spot}
use Rattle.innermost.specs.declared.spots.Walk.{Walk}
use Rattle.innermost.specs.declared.spots.Walk.TheVariants as walk
use Rattle.innermost.specs.Instances.{AreKept}

-- A tree on the way: its head, the arguments up to the one that was begun, those after it, and its
-- room.
pub record Crumb : Type 0 where
  pub head : Head
  pub front : List Tree
  pub rest : Trees
  pub room : ℕ

abbrev pub onto : List Tree → Trees → Trees
onto [] us = us
onto (t ∷ ts) us = More t (onto ts us)

abbrev pub crumb_tree : Crumb → Tree
crumb_tree c = Node c.head (onto c.front c.rest)

-- the tree with another one in place of the argument that was begun
abbrev pub with_last : Crumb → Tree → Trees
with_last c u = onto (but_last 1 c.front ++ u ∷ []) c.rest

-- What a step comes to from some tree on: the arguments after those that stayed the same; after the
-- one that was begun; after all trees on the way, the last one first.
module _ (rules : List Rule) where
  abbrev pub from_rest : Crumb → ℕ → Building (Stepped Tree)
  from_rest c fuel =
      step_all rules c.rest fuel (c.room - length c.front) >>= (λ s left.
      rebuild (count_of (onto c.front c.rest)) (λ us. Node c.head (onto c.front us)) s left c.room)

  abbrev pub after_argument : Crumb → Stepped Tree → ℕ → Building (Stepped Tree)
  after_argument c Same left = from_rest c left
  after_argument c (Changed u) left = rebuild (count_of (onto c.front c.rest))
      (λ us. Node c.head us) (Changed (with_last c u)) left c.room

  abbrev pub onward : List Crumb → Stepped Tree → ℕ → Building (Stepped Tree)
  onward [] s left = done s left
  onward (c ∷ cs) s left = after_argument c s left >>= onward cs

  abbrev pub pending : List Crumb → ℕ → Building (Stepped Tree)
  pending [] fuel = done Same fuel
  pending (c ∷ cs) fuel = from_rest c fuel >>= onward cs

-- each part of a tree is a part of the other
abbrev pub IsUnder : Tree → Tree → Type 0
IsUnder root t = (u : Tree) → among u (subtrees t) ≡ true → among u (subtrees root) ≡ true

module _ (depth : ℕ) (root : Tree) (now : Store) where
  -- a spot of the walk is a tree on the way, over so many others
  pub record IsSpot (others : ℕ) (f : Spot) (c : Crumb) : Type 0 where
    pub has : HasTree now f.row (crumb_tree c)
    pub under : IsUnder root (crumb_tree c)
    pub argument : f.argument ≡ length c.front
    pub room : f.room ≡ c.room
    pub places : others + c.room ≤ depth
    pub some : 0 < c.room

  -- the spots, the last one first
  abbrev pub AreSpots : List Spot → List Crumb → Type 0
  AreSpots [] [] = Unit {0}
  AreSpots [] (c ∷ cs) = ⊥
  AreSpots (f ∷ fs) [] = ⊥
  AreSpots (f ∷ fs) (c ∷ cs) = IsSpot (length fs) f c × AreSpots fs cs

-- one argument of each tree on the way was begun; of each but the last
abbrev pub AreBegun : List Crumb → Type 0
AreBegun [] = Unit {0}
AreBegun (c ∷ cs) = (0 < length c.front) × AreBegun cs

abbrev pub AreBegunBelow : List Crumb → Type 0
AreBegunBelow [] = Unit {0}
AreBegunBelow (c ∷ cs) = AreBegun cs

module _ (plan : Planned) (depth : ℕ) (root : Tree) (now : Store) where
  -- The tree of this row is tried next, in a room.
  pub record IsTrying (spots : List Spot) (row : Row) (room : ℕ) : Type 0 where
    pub crumbs : List Crumb
    pub tree : Tree
    pub on_way : AreSpots depth root now (reverse spots) crumbs
    pub begun : AreBegun crumbs
    pub has : HasTree now row tree
    pub under : IsUnder root tree
    pub places : length spots + room ≤ depth
    pub run : (fuel : ℕ)
        → step plan.rules root fuel depth
        ≡ (step plan.rules tree fuel room >>= onward plan.rules crumbs)

  -- The walk goes on with the next argument of the last spot.
  pub record IsWalking (spots : List Spot) : Type 0 where
    pub crumbs : List Crumb
    pub on_way : AreSpots depth root now (reverse spots) crumbs
    pub begun : AreBegunBelow crumbs
    pub run : (fuel : ℕ) → step plan.rules root fuel depth ≡ pending plan.rules crumbs fuel

  -- A rule is used in a room, with these rows bound.
  pub record IsFound (spots : List Spot) (rows : List Row) (rule room : ℕ) : Type 0 where
    pub crumbs : List Crumb
    pub on_way : AreSpots depth root now (reverse spots) crumbs
    pub begun : AreBegun crumbs
    pub bound : List Tree
    pub kept : AreKept (root ∷ []) now rows bound
    pub within : rule < length plan.rules
    pub vars : (r : Rule) → r ≡ slice_index_or plan.rules rule r → length bound ≡ r.vars
    pub most : room ≤ depth
    pub some : 0 < room
    pub run : (r : Rule) → r ≡ slice_index_or plan.rules rule r → (fuel : ℕ)
        → step plan.rules root fuel depth
        ≡ (use_right r.right bound fuel room >>= onward plan.rules crumbs)

  abbrev pub IsWalk : List Spot → List Row → Walk → Type 0
  IsWalk spots rows walk.On = IsWalking spots
  IsWalk spots rows walk.Same = (fuel : ℕ) → step plan.rules root fuel depth ≡ done Same fuel
  IsWalk spots rows walk.TooDeep = (fuel : ℕ) → step plan.rules root fuel depth ≡ ends TooDeep
  IsWalk spots rows (walk.Found rule room) = IsFound spots rows rule room

-- how many nodes a list of trees has
abbrev pub nodes_of : List Tree → ℕ
nodes_of [] = 0
nodes_of (t ∷ ts) = nodes t + nodes_of ts

-- what is left to walk through at most, which falls with each argument that is tried
abbrev pub left_of : Store → List Spot → ℕ
left_of s [] = 0
left_of s (f ∷ fs) = 1 + 2 * nodes_of (drop f.argument (arguments (tree_at s f.row))) + left_of s fs

abbrev pub walk_left : Store → List Spot → Walk → ℕ
walk_left s spots walk.On = 1 + left_of s spots
walk_left s spots walk.Same = 0
walk_left s spots walk.TooDeep = 0
walk_left s spots (walk.Found rule room) = 0
