-- Whether a head stands at the root of a tree.
use Rattle.std.specs.Prelude.{ℕ, Bool, false, ◌&&◌, ◌==◌}
use Rattle.term_model.specs.Tree.{Tree, Leaf, Node, count_of, head_eq}
use Rattle.term_model.specs.declared.Head.{Head}

-- the tree is this head over so many trees
abbrev pub stands : Head → ℕ → Tree → Bool
stands h n (Leaf x) = false
stands h n (Node g ts) = head_eq h g && (count_of ts == n)
