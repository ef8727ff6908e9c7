-- The states of outermost rewriting between steps.
use Rattle.std.specs.Prelude.{ℕ, ◌+◌, ◌≤◌, List, [], ◌∷◌, length, Option, Some, None}
use Rattle.term_model.specs.Tree.{Tree}
use Rattle.term_model.specs.declared.Row.{Row}
use Rattle.terms_api.specs.Terms.{Store}
use Rattle.rewrite_model.specs.Outermost.{Building, steps}
use Rattle.rule_match.specs.Planned.{Planned, IsPlan}
use Rattle.innermost.specs.declared.normal.Normal.{Normal}
use Rattle.innermost.specs.declared.spots.Spot.{Spot}
use Rattle.innermost.specs.Instances.{IsNarrow}
use Rattle.innermost.specs.Outward.{Goes, EndsAs}
use Rattle.innermost.specs.Walking.{IsFound}

-- the store at the start, and what the run comes to as a whole
pub record Run : Type 0 where
  pub start : Store
  pub whole : Building Tree

-- what is the same all the time
pub record IsSteady (run : Run) (plan : Planned) (depth : ℕ) : Type 0 where
  pub planned : IsPlan plan
  pub wide : plan.widest ≤ run.start.widest
  pub places : length run.start.stack + depth ≤ run.start.room
  pub range : depth ≤ 4294967295

-- The tree on top is rewritten, with so much fuel.
pub record IsOn (run : Run) (plan : Planned) (depth left : ℕ) (now : Store) : Type 0 where
  pub steady : IsSteady run plan depth
  pub tree : Tree
  pub narrow : IsNarrow plan.widest tree
  pub goes : Goes run.start now run.whole (tree ∷ []) (steps plan.rules left tree depth)

-- A rule is used on a part of the tree on top.
pub record IsReplacing (run : Run) (plan : Planned) (depth left : ℕ) (now : Store)
    (spots : List Spot) (rows : List Row) (rule room : ℕ) : Type 0 where
  pub on : IsOn run plan depth left now
  pub found : IsFound plan depth on.tree now spots rows rule room

-- a step more, or the end
abbrev pub GoesOn : Run → Planned → ℕ → ℕ → Store → Option Normal → Type 0
GoesOn run plan depth left now None = IsOn run plan depth left now
GoesOn run plan depth left now (Some end) = EndsAs run.start now run.whole end
