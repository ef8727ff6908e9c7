-- The events that are told of a term.
use Rattle.std.specs.Prelude.{◌≡◌, ℕ, List, [], Bool, true, false, ◌&&◌, if◌then◌else◌, All}
use Rattle.term_model.specs.Tree.{Tree}
use Rattle.rewrite_model.specs.Rule.{Rule, IsUnconditional}
use Rattle.rewrite_model.specs.Trace.{trace}
use Rattle.rewrite_model.specs.declared.event.Event.{Event}
use Rattle.innermost.specs.declared.normal.Normal.{Normal}
use Rattle.innermost.specs.declared.normal.Normal.TheVariants.{Value, OutOfFuel, TooDeep}
use Rattle.term_lines.specs.declared.strategy.Strategy.{Strategy}
use Rattle.term_lines.specs.declared.strategy.Strategy.TheVariants.{Innermost, Outermost}

-- whether events are told: where they are asked, of innermost rewriting alone
abbrev pub tells : Strategy → Bool → Bool
tells Innermost traced = traced
tells Outermost traced = false

-- whether results are remembered: where that is asked, of innermost rewriting whose events aren't
-- told
abbrev pub remembers : Strategy → (traced asked : Bool) → Bool
remembers Innermost true asked = false
remembers Innermost false asked = asked
remembers Outermost traced asked = false

-- what is told says something only of rules without conditions
abbrev pub MayTell : Bool → List Rule → Type 0
MayTell told rules = told ≡ true → All IsUnconditional rules

-- the events of a term: those of its evaluation, where they are told and its line is a value
abbrev pub events_of : Bool → List Rule → Tree → ℕ → Bool → List Event
events_of told rules term fuel value = if told && value then trace rules term fuel else []

-- the events that were told where a term has a value; where it has none nothing is said
abbrev pub Told : Bool → List Rule → Tree → ℕ → List Event → Normal → Type 0
Told told rules term fuel events (Value left) = events ≡ events_of told rules term fuel true
Told told rules term fuel events OutOfFuel = Unit {0}
Told told rules term fuel events TooDeep = Unit {0}
