-- All trees to which one step by rules without conditions leads: first those of a step at the root,
-- a tree for each rule that matches, in written order; then those of a step in an argument, from
-- left to right.
use Rattle.std.specs.Prelude.{List, [], ◌∷◌, ◌++◌, map}
use Rattle.term_model.specs.Tree.{Tree, Leaf, Node, Trees, End, More}
use Rattle.rewrite_model.specs.Rule.{Rule}
use Rattle.rewrite_model.specs.Matching.{match_of, if_matched, instance}

-- at the root by one rule: the instance of its right side, where it matches
abbrev pub steps_by : Rule → Tree → List Tree
steps_by r t = if_matched (match_of r.left t) [] (λ bound. instance r.right bound ∷ [])

abbrev pub steps_at_root : List Rule → Tree → List Tree
steps_at_root [] t = []
steps_at_root (r ∷ rs) t = steps_by r t ++ steps_at_root rs t

-- Arguments have a step where one of them has, and the others stay as they are.
module _ (rules : List Rule) where
  abbrev mutual
    pub steps_of : Tree → List Tree
    steps_of (Leaf x) = steps_at_root rules (Leaf x)
    steps_of (Node h ts) = steps_at_root rules (Node h ts) ++ map (λ us. Node h us) (steps_in ts)

    pub steps_in : Trees → List Trees
    steps_in End = []
    steps_in (More t ts) = map (λ u. More u ts) (steps_of t) ++ map (λ us. More t us) (steps_in ts)
