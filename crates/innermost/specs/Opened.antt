-- A node of a term whose tree stands on top, to be reduced.
use Rattle.std.specs.Prelude.{◌≡◌, ℕ, ◌+◌, ◌≤◌, List, [], ◌∷◌, ◌++◌, length, drop, Option, false, All}
use Rattle.term_model.specs.Tree.{Tree}
use Rattle.terms_api.specs.Terms.{Store}
use Rattle.rewrite_model.specs.Rule.{IsUnconditional}
use Rattle.rewrite_model.specs.Run.{noting}
use Rattle.rewrite_model.specs.Evaluation.{Point}
use Rattle.rule_match.specs.Planned.{Planned}
use Rattle.rule_code.specs.declared.compile.Code.{Code}
use Rattle.innermost.specs.declared.frames.Task.{Task}
use Rattle.innermost.specs.declared.frames.Task.TheVariants.{Reduce, Go, Return, End}
use Rattle.rule_code.specs.Code.{code}
use Rattle.innermost.specs.State.{at_steps, whole, reduces_to, point_of}
use Rattle.innermost.specs.Fits.{Fits}
use Rattle.innermost.specs.Whole.{Origin, AreNormal, AreArguments, ToldReducing}
use Rattle.innermost.specs.Standing.{with_notes, Stands}
use Rattle.innermost.specs.Tasks.{Job, rules_from, IsCandidateFor}

-- a tree that is reduced by itself, with so much fuel
abbrev pub alone : Tree → ℕ → Origin
alone tree left = record { term = tree; fuel = left; whole = λ t. t; position = [] }

-- What is so while a tree that was just built is tried by the rules from one on, and then the rest
-- of the term's evaluation goes on.
pub record IsTried (plan : Planned) (codes : Code) (term : Tree) (at left : ℕ) (below : List Tree)
    (tree : Tree) (next : Option ℕ) (room : ℕ) : Type 0 where
  pub passed : (wide : ℕ) → reduces_to plan.rules [] plan.rules below tree left wide
      ≡ reduces_to plan.rules [] (rules_from plan.rules next) below tree left wide
  pub candidate : IsCandidateFor plan next tree
  pub places : length below + room ≤ codes.depth
  pub count : 0 + room ≤ codes.depth
  pub fits : Fits 0 0 plan.widest false (length below + 1) (drop (at + 1) (code term 0))
  pub told : All IsUnconditional plan.rules → AreNormal plan.rules below
      × AreArguments (drop (at + 1) (code term 0))
  pub trying : All IsUnconditional plan.rules
      → ToldReducing plan.rules (alone tree left) [] below tree left next

-- The tree of the node stands on top, and the rest of the evaluation waits for its value.
pub record IsOpened (plan : Planned) (codes : Code) (job : Job) (term : Tree) (at left : ℕ)
    (points : List Point) (now : Store) (next : Option ℕ) (room : ℕ) : Type 0 where
  pub below : List Tree
  pub tree : Tree
  pub stands : Stands job.start now (points ++ point_of [] below tree room ∷ [])
      (below ++ tree ∷ [])
  pub run : job.whole
      ≡ with_notes points
      (noting (point_of [] below tree room)
      (reduces_to plan.rules
      (at_steps (whole term codes.depth) (drop (at + 1) (code term 0)) ∷ []) plan.rules
      below tree left room))
  pub tried : IsTried plan codes term at left below tree next room

abbrev pub Opens : (plan : Planned) (codes : Code) (job : Job) (term : Tree) (at left : ℕ)
    → List Point → Store → Task → Type 0
Opens plan codes job term at left points now (Reduce next room) =
    IsOpened plan codes job term at left points now next room
Opens plan codes job term at left points now (Go f) = ⊥
Opens plan codes job term at left points now Return = ⊥
Opens plan codes job term at left points now (End end) = Unit {0}
