-- Leftmost innermost evaluation: arguments first, from left to right, then the first rule that
-- fits. Each use of a rule costs one unit of fuel; room says how deep evaluation may still go, and
-- a difference of rooms below 0 is 0.
use Rattle.std.specs.Prelude.{ℕ, zero, suc, ◌+◌, ◌-◌, List, [], ◌∷◌, ◌++◌, length, if◌then◌else◌, nat_lt, Bool, true, false, not}
use Rattle.term_model.specs.Tree.{Tree, Leaf, Node, Trees, End, More, arguments, tree_eq}
use Rattle.rewrite_model.specs.Rule.{Rule, Condition}
use Rattle.rewrite_model.specs.Matching.{match_of, if_matched, tree_at}
use Rattle.rewrite_model.specs.Run.{Run, OutOfFuel, TooDeep, done, ends, noting, ◌>>=◌, in_room}

-- A point is where reducing a tree by all rules begins, and in which room. Its hand is the trees
-- that are kept there: the arguments of the tree, the trees bound by the rule whose right side gave
-- it, and what is kept for the evaluations round it.
pub record Point : Type 0 where
  pub tree : Tree
  pub hand : List Tree
  pub room : ℕ

abbrev pub Evaluated : Type 0 → Type 0
Evaluated A = Run Point A

-- Reduces a tree by all rules: the trees bound by the rule that gave it, the trees kept round it,
-- the tree, the fuel and the room.
abbrev pub Reducer : Type 0
Reducer = List Tree → List Tree → Tree → ℕ → ℕ → Evaluated Tree

-- the values are equal, or differ, as the condition asks
abbrev pub holds : Condition → Tree → Tree → Bool
holds c t u = if c.equal then tree_eq t u else not (tree_eq t u)

module _ (reduce : Reducer) (bound : List Tree) where
  -- A variable gives its tree. A head over patterns evaluates them and reduces the tree built of
  -- their values, both in this room.
  abbrev mutual
    pub evaluate : Tree → List Tree → ℕ → ℕ → Evaluated Tree
    evaluate (Leaf x) kept fuel room = in_room room (done (tree_at x bound) fuel)
    evaluate (Node h ps) kept fuel room =
        in_room room (evaluate_all ps kept fuel room >>=
        (λ ts left. reduce [] kept (Node h ts) left room))

    -- From left to right, the i-th in room - i; the values of the earlier ones are kept.
    pub evaluate_all : Trees → List Tree → ℕ → ℕ → Evaluated Trees
    evaluate_all End kept fuel room = done End fuel
    evaluate_all (More p ps) kept fuel room =
        evaluate p kept fuel (room - 1) >>= (λ t left.
        evaluate_all ps (t ∷ kept) left (room - 1) >>= (λ ts rest. done (More t ts) rest))

  -- Whether all conditions hold, in order up to the first that fails: the first side in room - 2,
  -- the second in room - 3, with the first one's value kept.
  abbrev pub hold : List Condition → List Tree → ℕ → ℕ → Evaluated Bool
  hold [] kept fuel room = done true fuel
  hold (c ∷ cs) kept fuel room =
      evaluate c.first kept fuel (room - 2) >>= (λ t left.
      evaluate c.second (t ∷ kept) left (room - 3) >>= (λ u rest.
      if holds c t u then hold cs kept rest room else done false rest))

  -- A variable on the right gives its tree. The arguments of a head on the right are evaluated in
  -- room less the count of variables, with the bound trees kept; then the tree built of them is
  -- reduced in the whole room, and only the point where that begins has the bound trees in hand.
  abbrev pub replace : Tree → List Tree → ℕ → ℕ → Evaluated Tree
  replace (Leaf x) kept fuel room = done (tree_at x bound) fuel
  replace (Node h ps) kept fuel room =
      evaluate_all ps (bound ++ kept) fuel (room - length bound) >>=
      (λ ts left. reduce bound kept (Node h ts) left room)

-- A rule that matches costs one unit of fuel, whether or not its conditions hold, and needs room
-- for its variables and one more. While a condition is evaluated the tree and the bound trees are
-- kept.
abbrev pub apply : Reducer → Rule → List Tree → List Tree → Tree → ℕ → ℕ → (ℕ → Evaluated Tree)
    → Evaluated Tree
apply reduce r bound kept t zero room otherwise = ends OutOfFuel
apply reduce r bound kept t (suc fuel) room otherwise =
    if nat_lt room (1 + length bound) then ends TooDeep else
    (hold reduce bound r.conditions (t ∷ bound ++ kept) fuel (room - length bound) >>= (λ all left.
    if all then replace reduce bound r.right kept left room else otherwise left))

-- By the rules of a list in order: one that doesn't match costs nothing, one whose conditions fail
-- leaves the tree to the rest, and with no rule left the tree is the value.
abbrev pub reduce_by : Reducer → List Rule → List Tree → Tree → ℕ → ℕ → Evaluated Tree
reduce_by reduce [] kept t fuel room = done t fuel
reduce_by reduce (r ∷ rs) kept t fuel room =
    if_matched (match_of r.left t) (reduce_by reduce rs kept t fuel room)
    (λ bound. apply reduce r bound kept t fuel room (λ left. reduce_by reduce rs kept t left room))

-- Reducing by all rules begins with a point.
abbrev pub begin : Reducer → List Rule → Reducer
begin reduce rules given kept t fuel room =
    noting (record { tree = t; hand = arguments t ++ given ++ kept; room = room })
    (reduce_by reduce rules kept t fuel room)

-- The reductions inside a reduction have less fuel, so that a bound on the fuel carries the
-- recursion.
abbrev pub reduce_within : ℕ → List Rule → Reducer
reduce_within zero rules = begin (λ given kept t fuel room. ends OutOfFuel) rules
reduce_within (suc n) rules = begin (reduce_within n rules) rules

-- Reducing by all rules. It is what begins with itself for the reductions inside, which a law says.
abbrev pub reduction : List Rule → Reducer
reduction rules given kept t fuel room = reduce_within fuel rules given kept t fuel room

-- the evaluation of a term
abbrev pub evaluation : List Rule → Tree → ℕ → ℕ → Evaluated Tree
evaluation rules term fuel room = evaluate (reduction rules) [] term [] fuel room
