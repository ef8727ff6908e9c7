-- What is true of all derivations and their events.
use Rattle.std.specs.Prelude.{◌≡◌, ℕ, ◌+◌, ◌≤◌, List, [], Some, All, length}
use Rattle.term_model.specs.Tree.{Tree}
use Rattle.rewrite_model.specs.Rule.{Rule, IsNode, IsUnconditional}
use Rattle.rewrite_model.specs.Run.{Ended, Done, OutOfFuel, TooDeep}
use Rattle.rewrite_model.specs.Evaluation.{evaluation}
use Rattle.rewrite_model.specs.Step.{Reaches, ReachesInSteps}
use Rattle.rewrite_model.specs.Derivation.{Replacement, derived}
use Rattle.rewrite_model.specs.Trace.{replacements, events_from, trace}
use Rattle.rewrite_model.specs.Uses.{replaced_in_room}
use Rattle.rewrite_model.specs.Replay.{replayed, made_by}
use Rattle.rewrite_model.specs.declared.event.Event.{Event}

-- Each replacement of a derivation is a step.
abbrev pub DerivationReaches : Type 0
DerivationReaches = (rules : List Rule) (ss : List Replacement) (t u : Tree)
    → derived rules ss t ≡ Some u → ReachesInSteps rules (length ss) t u

-- The events of a derivation lead where it leads.
abbrev pub EventsLead : Type 0
EventsLead = (rules : List Rule) (ss : List Replacement) (t u : Tree) → derived rules ss t ≡ Some u
    → replayed rules (events_from [] ss) [] t ≡ Some u

-- The events of a derivation make its replacements, in order.
abbrev pub EventsMake : Type 0
EventsMake = (ss : List Replacement) → made_by (events_from [] ss) [] ≡ Some ss

-- No events that make the same replacements in order are fewer.
abbrev pub EventsAreFewest : Type 0
EventsAreFewest = (es : List Event) (ss : List Replacement) → made_by es [] ≡ Some ss
    → length (events_from [] ss) ≤ length es

-- Whatever events lead to is reached by steps.
abbrev pub EventsReach : Type 0
EventsReach = (rules : List Rule) (es : List Event) (t u : Tree) → replayed rules es [] t ≡ Some u
    → Reaches rules t u

-- By rules without conditions, of which no left side is a variable, the value of a term is what the
-- leftmost innermost derivation from the term leads to, with one replacement for each unit of fuel.
abbrev pub EvaluationDerives : Type 0
EvaluationDerives = (rules : List Rule) → All (λ (r : Rule). IsNode r.left) rules
    → All IsUnconditional rules →
    (t u : Tree) (fuel room left : ℕ) → (evaluation rules t fuel room).end ≡ Done u left →
    (derived rules (replacements rules fuel t) t ≡ Some u)
    × (fuel ≡ left + length (replacements rules fuel t))

-- So the events of the evaluation lead to the value.
abbrev pub TraceLeads : Type 0
TraceLeads = (rules : List Rule) → All (λ (r : Rule). IsNode r.left) rules
    → All IsUnconditional rules →
    (t u : Tree) (fuel room left : ℕ) → (evaluation rules t fuel room).end ≡ Done u left
    → replayed rules (trace rules t fuel) [] t ≡ Some u

-- So many replacements take so much of the fuel: a value leaves the rest of it, and where room ends
-- there was as much.
abbrev pub TakesFuel : {A : Type 0} → ℕ → ℕ → Ended A → Type 0
TakesFuel fuel count (Done u left) = fuel ≡ left + count
TakesFuel fuel count OutOfFuel = Unit {0}
TakesFuel fuel count TooDeep = count ≤ fuel

-- By rules without conditions, each replacement that is made in the room takes one unit of fuel.
abbrev pub ReplacementsTakeFuel : Type 0
ReplacementsTakeFuel = (rules : List Rule) → All IsUnconditional rules → (t : Tree) (fuel room : ℕ)
    → TakesFuel fuel (replaced_in_room rules t fuel room) (evaluation rules t fuel room).end
