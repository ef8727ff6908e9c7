-- Cached lists as lists.
use Rattle.std.proofs.Common.{◌≡◌, List, [], ◌∷◌, ◌++◌, refl, sym, ap, subst, append_assoc, append-nil}
use Rattle.term_model.specs.Tree.{Tree}
use Rattle.rewrite_model.specs.Rule.{Rule}
use Rattle.rewrite_model.specs.Evaluation.{Point}
use Rattle.rewrite_model.specs.Built.{trees_at}
use Rattle.rewrite_cache.specs.Cached.{IsCached, Nothing, Whole, LeftOut, AreNew}

pub all_built : (rules : List Rule) (earlier : List Tree) (points : List Point) → IsCached rules earlier points (trees_at points)
all_built rules earlier [] = Nothing
all_built rules earlier (p ∷ points) = Whole (all_built rules (earlier ++ p.tree ∷ []) points)

pub joined : {rules : List Rule} {earlier : List Tree} {points : List Point} {trees : List Tree} (more : List Tree) (others : List Point) → IsCached rules earlier points trees → IsCached rules (earlier ++ trees) others more → IsCached rules earlier (points ++ others) (trees ++ more)
joined {rules} {earlier} more others Nothing c = subst (λ ts. IsCached rules ts others more) (append-nil earlier) c
joined {rules} {earlier} more others (Whole {trees = trees} {p = p} d) c =
    Whole (joined more others d (subst (λ ts. IsCached rules ts others more) (sym (append_assoc earlier (p.tree ∷ []) trees)) c))
joined {rules} {earlier} more others (LeftOut {trees = trees} {p = p} {inside = inside} {points = points} stands reduced d) c =
    subst (λ (ps : List Point). IsCached rules earlier (p ∷ ps) (p.tree ∷ trees ++ more)) (sym (append_assoc inside points others))
    (LeftOut stands reduced (joined more others d (subst (λ ts. IsCached rules ts others more) (sym (append_assoc earlier (p.tree ∷ []) trees)) c)))

pub new_built : {rules : List Rule} {earlier : List Tree} {points : List Point} {trees : List Tree} → AreNew earlier points → IsCached rules earlier points trees → trees ≡ trees_at points
new_built new Nothing = refl
new_built new (Whole {p = p} d) = ap (λ ts. p.tree ∷ ts) (new_built new.1 d)
new_built new (LeftOut stands reduced d) = absurd (new.0 stands)
