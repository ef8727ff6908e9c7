-- What is taken of a text at once.
use Rattle.std.specs.Prelude.{◌≡◌, ℕ, ◌+◌, List, Some}
use Rattle.term_syntax.specs.declared.token.Mark.{Mark}
use Rattle.term_syntax.specs.declared.token.Mark.TheVariants as mark
use Rattle.term_syntax.specs.declared.token.Shape.{Shape}
use Rattle.term_building.specs.declared.builder.passing.Begun.{Begun}
use Rattle.term_building.specs.declared.builder.passing.Begun.TheVariants as begun
use Rattle.term_building.specs.declared.builder.passing.Behind.{Behind}
use Rattle.term_building.specs.declared.builder.passing.Behind.TheVariants as behind
use Rattle.term_building.specs.Reached.{Passes, Reaches}
use Rattle.term_building.specs.Stages.{Stage, Settled, Expected}
use Rattle.term_building.specs.State.{State, step}

-- where reading stands after a mark behind a whole term
abbrev pub stage_behind : Mark → Stage
stage_behind mark.Comma = Expected
stage_behind _ = Settled

-- a mark behind a whole term was taken, or nothing
abbrev pub IsBehind : Behind → List ℕ → ℕ → State → State → Type 0
IsBehind behind.Closed text at s r = Passes text at s (at + 1) r × (r.stage ≡ Settled)
IsBehind behind.Comma text at s r = Passes text at s (at + 1) r
IsBehind behind.Other text at s r = r ≡ s

-- what was taken behind a token that ends at this place
abbrev pub HasBegun : Begun → List ℕ → ℕ → State → State → Type 0
HasBegun begun.Whole text end s r = Reaches text end s end r × (r.stage ≡ Settled)
HasBegun begun.Group text end s r = Reaches text end s (end + 1) r
HasBegun begun.Name text end s r = Reaches text end s end r
HasBegun begun.Nothing text end s r = ⊥

-- a token was taken, and what was taken behind it
pub record Takes (b : Begun) (text : List ℕ) (place end : ℕ) (shape : Shape)
    (s r : State) : Type 0 where
  pub state : State
  pub step_is : step text place end shape s ≡ Some state
  pub begun : HasBegun b text end state r

-- a token was taken, or nothing
abbrev pub Begins : Begun → List ℕ → ℕ → ℕ → Shape → State → State → Type 0
Begins begun.Nothing text place end shape s r = r ≡ s
Begins b text place end shape s r = Takes b text place end shape s r
