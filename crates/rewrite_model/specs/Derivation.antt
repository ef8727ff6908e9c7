-- A replacement is a step of rewriting that says its position and its rule. A derivation is a list
-- of replacements, one after another, from a term to a term.
use Rattle.std.specs.Prelude.{ℕ, zero, suc, List, [], ◌∷◌, Option, Some, None, option_and_then}
use Rattle.std.specs.Option.{option_map}
use Rattle.term_model.specs.Tree.{Tree, Leaf, Node, Trees, End, More}
use Rattle.rewrite_model.specs.Rule.{Rule}
use Rattle.rewrite_model.specs.Matching.{match_of, if_matched, instance}

-- A position says which argument to go to, from 1 on, one after another from the root; the root is
-- the empty list. Rules are numbered from 0.
pub record Replacement : Type 0 where
  pub position : List ℕ
  pub rule : ℕ

-- what the rule with this number makes of a tree that its left side matches
abbrev pub by_rule : List Rule → ℕ → Tree → Option Tree
by_rule [] k t = None
by_rule (r ∷ rs) zero t =
    if_matched (match_of r.left t) None (λ bound. Some (instance r.right bound))
by_rule (r ∷ rs) (suc k) t = by_rule rs k t

-- The tree with what a rule makes of it at a position; none where there is no such position, or the
-- rule doesn't match there.
module _ (rules : List Rule) where
  abbrev mutual
    pub replace_at : List ℕ → ℕ → Tree → Option Tree
    replace_at [] k t = by_rule rules k t
    replace_at (j ∷ js) k (Leaf x) = None
    replace_at (j ∷ js) k (Node h ts) = option_map (λ us. Node h us) (replace_in j js k ts)

    pub replace_in : ℕ → List ℕ → ℕ → Trees → Option Trees
    replace_in j js k End = None
    replace_in zero js k (More t ts) = None
    replace_in (suc zero) js k (More t ts) = option_map (λ u. More u ts) (replace_at js k t)
    replace_in (suc (suc j)) js k (More t ts) =
        option_map (λ us. More t us) (replace_in (suc j) js k ts)

  abbrev pub replaced : Replacement → Tree → Option Tree
  replaced s t = replace_at s.position s.rule t

  -- the term to which a derivation leads
  abbrev pub derived : List Replacement → Tree → Option Tree
  derived [] t = Some t
  derived (s ∷ ss) t = option_and_then (λ u. derived ss u) (replaced s t)
