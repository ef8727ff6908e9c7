-- What an evaluation builds, and how many trees it has in hand.
use Rattle.std.specs.Prelude.{ℕ, max, List, [], ◌∷◌, length, map}
use Rattle.std.specs.List.{flat_map}
use Rattle.term_model.specs.Tree.{Tree, subtrees, distinct}
use Rattle.rewrite_model.specs.Rule.{Rule}
use Rattle.rewrite_model.specs.Evaluation.{Point, evaluation}

-- the trees of the points: those for which a reduction by all rules is begun, up to the end
abbrev pub trees_at : List Point → List Tree
trees_at points = map (λ p. p.tree) points

abbrev pub built_list : List Rule → Tree → ℕ → ℕ → List Tree
built_list rules term fuel room = trees_at (evaluation rules term fuel room).notes

-- how many different trees a point has in hand, with their subtrees and those of its tree
abbrev pub trees_in_hand : Point → ℕ
trees_in_hand p = distinct (flat_map subtrees (p.tree ∷ p.hand))

abbrev pub greatest : List ℕ → ℕ
greatest [] = 0
greatest (n ∷ ns) = max n (greatest ns)

-- the most trees in hand at any point of a term
abbrev pub need : List Rule → Tree → ℕ → ℕ → ℕ
need rules term fuel room = greatest (map trees_in_hand (evaluation rules term fuel room).notes)

-- of many terms together: what they build, how many trees that are, how many different ones, and
-- the most in hand
abbrev pub built_of_all : List Rule → List Tree → ℕ → ℕ → List Tree
built_of_all rules terms fuel room = flat_map (λ t. built_list rules t fuel room) terms

abbrev pub total_built : List Rule → List Tree → ℕ → ℕ → ℕ
total_built rules terms fuel room = length (built_of_all rules terms fuel room)

abbrev pub distinct_built : List Rule → List Tree → ℕ → ℕ → ℕ
distinct_built rules terms fuel room = distinct (built_of_all rules terms fuel room)

abbrev pub need_of_all : List Rule → List Tree → ℕ → ℕ → ℕ
need_of_all rules terms fuel room = greatest (map (λ t. need rules t fuel room) terms)
