-- Leftmost outermost evaluation by rules without conditions: the first position from the root that
-- a left side matches is rewritten, again and again. A run notes the trees that it builds.
use Rattle.std.specs.Prelude.{ℕ, zero, suc, ◌+◌, ◌-◌, List, [], ◌∷◌, length, if◌then◌else◌, nat_lt}
use Rattle.std.specs.List.{flat_map}
use Rattle.term_model.specs.Tree.{Tree, Leaf, Node, Trees, End, More, count_of, distinct}
use Rattle.rewrite_model.specs.Rule.{Rule}
use Rattle.rewrite_model.specs.Matching.{match_of, if_matched, tree_at}
use Rattle.rewrite_model.specs.Run.{Run, OutOfFuel, TooDeep, done, ends, noting, ◌>>=◌, in_room}

abbrev pub Building : Type 0 → Type 0
Building A = Run Tree A

-- Builds the instance of a pattern, the i-th argument in room - i.
module _ (bound : List Tree) where
  abbrev mutual
    pub build : Tree → ℕ → ℕ → Building Tree
    build (Leaf x) fuel room = in_room room (done (tree_at x bound) fuel)
    build (Node h ps) fuel room =
        in_room room (build_all ps fuel room >>=
        (λ ts left. noting (Node h ts) (done (Node h ts) left)))

    pub build_all : Trees → ℕ → ℕ → Building Trees
    build_all End fuel room = done End fuel
    build_all (More p ps) fuel room =
        build p fuel (room - 1) >>=
        (λ t left. build_all ps left (room - 1) >>= (λ ts rest. done (More t ts) rest))

-- what a step leaves
pub data Stepped (A : Type 0) : Type 0 where
  Same : Stepped A
  Changed : A → Stepped A

-- The right side of the first rule that matches is built in room - 1, for one unit of fuel.
abbrev pub use_right : Tree → List Tree → ℕ → ℕ → Building (Stepped Tree)
use_right right bound zero room = ends OutOfFuel
use_right right bound (suc fuel) room =
    build bound right fuel (room - 1) >>= (λ u left. done (Changed u) left)

abbrev pub step_at_root : List Rule → Tree → ℕ → ℕ → Building (Stepped Tree)
    → Building (Stepped Tree)
step_at_root [] t fuel room otherwise = otherwise
step_at_root (r ∷ rs) t fuel room otherwise =
    if_matched (match_of r.left t) (step_at_root rs t fuel room otherwise)
    (λ bound. use_right r.right bound fuel room)

-- a tree with a changed argument is built again, which needs room for its arguments and one more
abbrev pub rebuild : ℕ → (Trees → Tree) → Stepped Trees → ℕ → ℕ → Building (Stepped Tree)
rebuild count node Same fuel room = done Same fuel
rebuild count node (Changed us) fuel room =
    if nat_lt room (1 + count) then ends TooDeep
    else noting (node us) (done (Changed (node us)) fuel)

abbrev pub in_front : Tree → Stepped Trees → Stepped Trees
in_front t Same = Same
in_front t (Changed us) = Changed (More t us)

abbrev pub if_same : Stepped Tree → Trees → Building (Stepped Trees) → ℕ → Building (Stepped Trees)
if_same Same ts otherwise fuel = otherwise
if_same (Changed u) ts otherwise fuel = done (Changed (More u ts)) fuel

-- A step at the root, or else in the first argument that is not left the same, the i-th in room -
-- i.
module _ (rules : List Rule) where
  abbrev mutual
    pub step : Tree → ℕ → ℕ → Building (Stepped Tree)
    step (Leaf x) fuel room = in_room room (step_at_root rules (Leaf x) fuel room (done Same fuel))
    step (Node h ts) fuel room =
        in_room room (step_at_root rules (Node h ts) fuel room
        (step_all ts fuel room >>= (λ s left. rebuild (count_of ts) (λ us. Node h us) s left room)))

    pub step_all : Trees → ℕ → ℕ → Building (Stepped Trees)
    step_all End fuel room = done Same fuel
    step_all (More t ts) fuel room =
        step t fuel (room - 1) >>= (λ s left.
        if_same s ts (step_all ts left (room - 1) >>=
        (λ more rest. done (in_front t more) rest)) left)

  -- steps until one leaves the tree the same
  abbrev pub go_on : Tree → Stepped Tree → ℕ → (Tree → Building Tree) → Building Tree
  go_on t Same fuel go = done t fuel
  go_on t (Changed u) fuel go = go u

  -- a step that changes the tree takes one unit of fuel, so that the fuel carries the recursion
  abbrev pub steps : ℕ → Tree → ℕ → Building Tree
  steps zero t room = step t zero room >>= (λ s left. go_on t s left (λ u. ends OutOfFuel))
  steps (suc fuel) t room =
      step t (suc fuel) room >>= (λ s left. go_on t s left (λ u. steps fuel u room))

-- the outermost evaluation of a term
abbrev pub outermost : List Rule → Tree → ℕ → ℕ → Building Tree
outermost rules term fuel room = build [] term fuel room >>= (λ t left. steps rules left t room)

abbrev pub outermost_built : List Rule → Tree → ℕ → ℕ → List Tree
outermost_built rules term fuel room = (outermost rules term fuel room).notes

-- of many terms together: what they build, how many trees that are, and how many different ones
abbrev pub outermost_built_of_all : List Rule → List Tree → ℕ → ℕ → List Tree
outermost_built_of_all rules terms fuel room =
    flat_map (λ t. outermost_built rules t fuel room) terms

abbrev pub outermost_total_built : List Rule → List Tree → ℕ → ℕ → ℕ
outermost_total_built rules terms fuel room = length (outermost_built_of_all rules terms fuel room)

abbrev pub outermost_distinct_built : List Rule → List Tree → ℕ → ℕ → ℕ
outermost_distinct_built rules terms fuel room =
    distinct (outermost_built_of_all rules terms fuel room)
