-- How workers end.
use Rattle.std.specs.Prelude.{◌≡◌, ℕ, ◌<◌, ◌≤◌, ◌⊎◌, List, [], ◌∷◌, ◌++◌, Some, Result, Ok, Err, false, length, slice_get}
use Rattle.term_model.specs.Tree.{Tree}
use Rattle.terms_api.specs.Terms.{Store}
use Rattle.rewrite_model.specs.Rule.{Rule}
use Rattle.settings.specs.declared.parts.Settings.{Settings}
use Rattle.innermost.specs.declared.normal.RunFault.{RunFault}
use Rattle.innermost.specs.declared.normal.RunFault.TheVariants as fault
use Rattle.term_lines.specs.Strategies.{Adds, RefusedBy}
use Rattle.line_ends.specs.declared.stop.LineStop.{LineStop}
use Rattle.line_ends.specs.declared.stop.LineStop.TheVariants as stop
use Rattle.worker_crew.specs.declared.fault.AllFault.{AllFault}
use Rattle.worker_crew.specs.declared.fault.AllFault.TheVariants.{Memory}
use Rattle.worker_crew.specs.Gathered.{IsWorst}
use Rattle.rewrite_workers.specs.Desks.{EachDesk}
use Rattle.work_order.specs.Drawn.{numbered, AreApart}
use Rattle.work_order.specs.Works.{strategy_of, tells_events, remembers_results, AreBuilt}

-- the desk built what these terms build, in order, and nothing else
abbrev pub BuiltAll : Settings → List Rule → List Tree → Store → Store → Type 0
BuiltAll s rules drawn old new = Adds (AreBuilt s rules drawn) old.built new.built

-- The desk refused a tree of the last of these terms, and built all that they build before it.
pub record RefusedLast (s : Settings) (rules : List Rule) (drawn : List Tree) (old new : Store)
    (fault : RunFault) : Type 0 where
  pub before : List Tree
  pub term : Tree
  pub drawn_is : drawn ≡ before ++ term ∷ []
  pub begun : Store
  pub built : BuiltAll s rules before old begun
  pub empty : begun.stack ≡ []
  pub refused : RefusedBy (strategy_of s.command) (remembers_results s rules) rules term s.fuel
      s.depth begun new fault
  pub refusals : old.refusals < new.refusals

-- The desk built the first of what these terms build, in order; all of it where no events are told,
-- since only they want memory before a term's line.
pub record BuiltFront (s : Settings) (rules : List Rule) (drawn : List Tree)
    (old new : Store) : Type 0 where
  pub front : List Tree
  pub rest : List Tree
  pub split : AreBuilt s rules drawn old.built (front ++ rest)
  pub built : new.built ≡ old.built ++ front
  pub whole : tells_events s rules ≡ false → BuiltAll s rules drawn old new

-- How a worker ended that drew these terms: none was left to draw, or it stopped at the last one,
-- or before it drew any.
abbrev pub Ended : {A : Type 0} → Settings → List Rule → List Tree → Store → Store
    → Result A LineStop → Type 0
Ended s rules drawn old new (Ok _) = BuiltAll s rules drawn old new × (new.refusals ≡ old.refusals)
Ended s rules drawn old new (Err stop.StoreFull) = RefusedLast s rules drawn old new fault.StoreFull
Ended s rules drawn old new (Err stop.Worn) = RefusedLast s rules drawn old new fault.Worn
Ended s rules drawn old new (Err stop.Memory) =
    BuiltFront s rules drawn old new × (new.refusals ≡ old.refusals)

-- Each worker drew some of the terms and ended so, with its desk. The fault is the worst of their
-- ends, or there was no memory to begin or to end with.
pub record Stopped {D : Type 0} (store : D → Store) (s : Settings) (rules : List Rule)
    (terms : List Tree) (olds news : List D) (fault : AllFault) : Type 0 where
  pub hands : List (List ℕ)
  pub ends : List (Result (Unit {0}) LineStop)
  pub apart : AreApart (length terms) (length olds) hands
  pub one_end : length ends ≡ length olds
  pub desks : EachDesk (λ k old new. (hand : List ℕ) × (end : Result (Unit {0}) LineStop)
      × (slice_get hands k ≡ Some hand) × (slice_get ends k ≡ Some end)
      × Ended s rules (numbered terms hand) (store old) (store new) end) olds news
  pub worst : IsWorst ends (Some fault) ⊎ (fault ≡ Memory)
