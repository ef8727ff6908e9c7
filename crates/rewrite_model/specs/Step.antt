-- One step of rewriting by rules without conditions, at any position.
use Rattle.std.specs.Prelude.{◌≡◌, ℕ, zero, suc, List, Some, Contains}
use Rattle.term_model.specs.Tree.{Tree, Node, Trees, More}
use Rattle.term_model.specs.declared.Head.{Head}
use Rattle.rewrite_model.specs.Rule.{Rule}
use Rattle.rewrite_model.specs.Matching.{match_of, instance}

-- The instance of a left side is replaced by that of the right side, at the root or in an argument.
mutual
  pub data Step (rules : List Rule) : Tree → Tree → Type 0 where
    at_root : {t : Tree} {bound : List Tree} (r : Rule) → Contains rules r
        → match_of r.left t ≡ Some bound → Step rules t (instance r.right bound)
    inside : {h : Head} {ts us : Trees} → StepIn rules ts us → Step rules (Node h ts) (Node h us)

  pub data StepIn (rules : List Rule) : Trees → Trees → Type 0 where
    here : {t u : Tree} {ts : Trees} → Step rules t u → StepIn rules (More t ts) (More u ts)
    there : {t : Tree} {ts us : Trees} → StepIn rules ts us → StepIn rules (More t ts) (More t us)

-- by any number of steps
pub data Reaches (rules : List Rule) : Tree → Tree → Type 0 where
  none : {t : Tree} → Reaches rules t t
  more : {t u v : Tree} → Step rules t u → Reaches rules u v → Reaches rules t v

-- by exactly so many steps
abbrev pub ReachesInSteps : List Rule → ℕ → Tree → Tree → Type 0
ReachesInSteps rules zero t u = t ≡ u
ReachesInSteps rules (suc n) t u = (v : Tree) × Step rules t v × ReachesInSteps rules n v u

-- a normal form has no step
abbrev pub IsNormalForm : List Rule → Tree → Type 0
IsNormalForm rules t = (u : Tree) → Step rules t u → ⊥
