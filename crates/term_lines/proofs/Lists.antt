-- What terms build one after another, whether or not results are remembered.
use Rattle.std.proofs.Common.{◌≡◌, ℕ, ◌≤◌, List, [], ◌∷◌, ◌++◌, Bool, true, false, length, refl, sym, ap, subst, ◌∙◌, arith, get_or}
use Rattle.std.specs.Prelude.{All, Contains}
use Rattle.std.proofs.lemmas.List.{append-nil, map-append}
use Rattle.std.proofs.lemmas.List.Concat.{flat_map-append}
use Rattle.std.proofs.lemmas.List.Elements.{Contains-get_or}
use Rattle.term_model.specs.Tree.{Tree}
use Rattle.rewrite_model.specs.Rule.{Rule}
use Rattle.rewrite_model.specs.Evaluation.{Point}
use Rattle.rewrite_model.specs.Built.{trees_at}
use Rattle.rewrite_cache.specs.Cached.{IsCached, Nothing}
use Rattle.rewrite_cache.proofs.Joined.{joined}
use Rattle.term_lines.proofs.Bounded.{are_those, are_no_longer}
use Rattle.term_lines.specs.declared.strategy.Strategy.{Strategy}
use Rattle.term_lines.specs.declared.strategy.Strategy.TheVariants.{Innermost, Outermost}
use Rattle.term_lines.specs.Strategies.{built_by, built_by_all, points_of, points_of_all, IsBuiltBy, AreBuiltBy}

module _ (rules : List Rule) (fuel room : ℕ) where
  abbrev points : List Tree → List Point
  points ts = points_of_all rules ts fuel room

  abbrev all : Strategy → List Tree → List Tree
  all strategy ts = built_by_all strategy rules ts fuel room

  points_after : (ts us : List Tree) → points (ts ++ us) ≡ points ts ++ points us
  points_after ts us = flat_map-append (λ t. points_of rules t fuel room) ts us

  all_after : (strategy : Strategy) (ts us : List Tree) → all strategy (ts ++ us) ≡ all strategy ts ++ all strategy us
  all_after strategy ts us = flat_map-append (λ t. built_by strategy rules t fuel room) ts us

  -- no terms build nothing
  pub none_built : (strategy : Strategy) (remembered : Bool) (before : List Tree) → AreBuiltBy strategy remembered rules [] fuel room before []
  none_built Innermost true before = Nothing
  none_built Innermost false before = refl
  none_built Outermost remembered before = refl

  -- what one term builds
  pub one_built : (strategy : Strategy) (remembered : Bool) (t : Tree) (before trees : List Tree) → IsBuiltBy strategy remembered rules t fuel room before trees →
      AreBuiltBy strategy remembered rules (t ∷ []) fuel room before trees
  one_built Innermost true t before trees c = subst (λ (ps : List Point). IsCached rules before ps trees) (sym (append-nil (points_of rules t fuel room))) c
  one_built Innermost false t before trees e = e ∙ sym (append-nil (built_by Innermost rules t fuel room))
  one_built Outermost remembered t before trees e = e ∙ sym (append-nil (built_by Outermost rules t fuel room))

  both_built : (strategy : Strategy) (ts us xs ys : List Tree) → xs ≡ all strategy ts → ys ≡ all strategy us → xs ++ ys ≡ all strategy (ts ++ us)
  both_built strategy ts us xs ys e f = ap (λ (zs : List Tree). zs ++ ys) e ∙ ap (λ (zs : List Tree). all strategy ts ++ zs) f ∙ sym (all_after strategy ts us)

  -- other terms after some
  pub built_on : (strategy : Strategy) (remembered : Bool) (ts us before xs ys : List Tree) → AreBuiltBy strategy remembered rules ts fuel room before xs →
      AreBuiltBy strategy remembered rules us fuel room (before ++ xs) ys → AreBuiltBy strategy remembered rules (ts ++ us) fuel room before (xs ++ ys)
  built_on Innermost true ts us before xs ys c d = subst (λ (ps : List Point). IsCached rules before ps (xs ++ ys)) (sym (points_after ts us)) (joined ys (points us) c d)
  built_on Innermost false ts us before xs ys e f = both_built Innermost ts us xs ys e f
  built_on Outermost remembered ts us before xs ys e f = both_built Outermost ts us xs ys e f

  trees_of_points : (ts : List Tree) → trees_at (points ts) ≡ all Innermost ts
  trees_of_points [] = refl
  trees_of_points (t ∷ ts) = map-append (λ (p : Point). p.tree) (points_of rules t fuel room) (points ts) ∙ ap (λ (zs : List Tree). trees_at (points_of rules t fuel room) ++ zs) (trees_of_points ts)

  in_all : (strategy : Strategy) (ts trees : List Tree) → trees ≡ all strategy ts → All (Contains (all strategy ts)) trees
  in_all strategy ts trees e i d below = subst (λ (zs : List Tree). Contains zs (get_or trees i d)) e (Contains-get_or trees i d below)

  -- they are some of those that the terms build
  pub within : (strategy : Strategy) (remembered : Bool) (ts before trees : List Tree) → AreBuiltBy strategy remembered rules ts fuel room before trees → All (Contains (all strategy ts)) trees
  within Innermost true ts before trees c = subst (λ (zs : List Tree). All (Contains zs) trees) (trees_of_points ts) (are_those c)
  within Innermost false ts before trees e = in_all Innermost ts trees e
  within Outermost remembered ts before trees e = in_all Outermost ts trees e

  -- and no more of them
  pub no_longer : (strategy : Strategy) (remembered : Bool) (ts before trees : List Tree) → AreBuiltBy strategy remembered rules ts fuel room before trees → length trees ≤ length (all strategy ts)
  no_longer Innermost true ts before trees c = subst (λ (zs : List Tree). length trees ≤ length zs) (trees_of_points ts) (are_no_longer c)
  no_longer Innermost false ts before trees e = let h : length trees ≡ length (all Innermost ts) = ap length e in omega (arith, h)
  no_longer Outermost remembered ts before trees e = let h : length trees ≡ length (all Outermost ts) = ap length e in omega (arith, h)
