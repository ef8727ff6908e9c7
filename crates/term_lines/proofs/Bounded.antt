-- A cached list is some of the trees of its points.
use Rattle.std.proofs.Common.{◌≡◌, ◌≤◌, List, [], ◌∷◌, ◌++◌, length, refl, sym, ap, subst, arith}
use Rattle.std.specs.Prelude.{All, Contains}
use Rattle.std.proofs.lemmas.List.{map-append, length-append}
use Rattle.std.proofs.lemmas.List.Elements.{All-nil, All-cons, All-weaker, Contains-append_right}
use Rattle.term_model.specs.Tree.{Tree}
use Rattle.rewrite_model.specs.Rule.{Rule}
use Rattle.rewrite_model.specs.Evaluation.{Point}
use Rattle.rewrite_model.specs.Built.{trees_at}
use Rattle.rewrite_cache.specs.Cached.{IsCached, Nothing, Whole, LeftOut}

abbrev tree : Point → Tree
tree p = p.tree

-- a tree of later points is one of all
later : (p : Point) (inside points : List Point) (t : Tree) → Contains (trees_at points) t → Contains (trees_at (p ∷ inside ++ points)) t
later p inside points t c =
    subst (λ ts. Contains ts t) (sym (map-append tree (p ∷ inside) points)) (Contains-append_right (trees_at (p ∷ inside)) (trees_at points) t c)

-- the tree of the first point, and trees of later ones
with_first : (p : Point) (inside points : List Point) (trees : List Tree) → All (Contains (trees_at points)) trees → All (Contains (trees_at (p ∷ inside ++ points))) (p.tree ∷ trees)
with_first p inside points trees all =
    let whole = trees_at (p ∷ inside ++ points) in
    All-cons (Contains whole) p.tree trees (0, omega arith, refl) (All-weaker (Contains (trees_at points)) (Contains whole) (λ t c. later p inside points t c) trees all)

pub are_those : {rules : List Rule} {earlier : List Tree} {points : List Point} {trees : List Tree} → IsCached rules earlier points trees → All (Contains (trees_at points)) trees
are_those Nothing = All-nil (Contains [])
are_those (Whole {trees = trees} {p = p} {points = points} d) = with_first p [] points trees (are_those d)
are_those (LeftOut {trees = trees} {p = p} {inside = inside} {points = points} stands reduced d) = with_first p inside points trees (are_those d)

pub are_no_longer : {rules : List Rule} {earlier : List Tree} {points : List Point} {trees : List Tree} → IsCached rules earlier points trees → length trees ≤ length (trees_at points)
are_no_longer Nothing = omega arith
are_no_longer (Whole {trees = trees} {p = p} {points = points} d) = let h = are_no_longer d in omega (arith, h)
are_no_longer (LeftOut {trees = trees} {p = p} {inside = inside} {points = points} stands reduced d) =
    let h = are_no_longer d in
    let same : length (trees_at (inside ++ points)) ≡ length (trees_at inside ++ trees_at points) = ap length (map-append tree inside points) in
    let long = length-append (trees_at inside) (trees_at points) in
    omega (arith, h, same, long)
