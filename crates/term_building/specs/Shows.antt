-- What was built and copied shows what was read.
use Rattle.std.specs.Prelude.{◌≡◌, ◌≤◌, ℕ, ◌+◌, List, [], ◌∷◌, length, Option, Some, None}
use Rattle.symbol_pool.specs.Pool.{IsPool}
use Rattle.term_syntax.specs.Written.{Written}
use Rattle.term_building.specs.Stages as stage
use Rattle.term_building.specs.declared.groups.Group.{Group}
use Rattle.term_building.specs.declared.groups.Heading.{Heading}
use Rattle.term_building.specs.Copying.{copied}
use Rattle.term_building.specs.Progress.{Stage, Settled, Bracketed, Expected, Headed, Opening, Called, Bracket, Open, Progress}
use Rattle.term_building.specs.State.{State, name_in}
use Rattle.term_building.specs.Text.{text_at}
use Rattle.term_building.specs.Trees.{GoodSoFar, trees_so_far}

-- the builder's stage is this one, and behind a name that name stands in the text
abbrev pub ShowsStage : List ℕ → stage.Stage → Stage → Type 0
ShowsStage text stage.Settled Settled = Unit {0}
ShowsStage text stage.Bracketed Bracketed = Unit {0}
ShowsStage text stage.Expected Expected = Unit {0}
ShowsStage text (stage.Headed h) (Headed p n) = name_in text h ≡ n
ShowsStage text _ _ = ⊥

-- parentheses have a heading, and that name stands in the text; brackets have none
abbrev pub ShowsOpening : List ℕ → Option Heading → Opening → Type 0
ShowsOpening text (Some h) (Called p n) = name_in text h ≡ n
ShowsOpening text None (Bracket p) = Unit {0}
ShowsOpening text _ _ = ⊥

-- how many whole terms there are
abbrev pub count_so_far : List Open → List Written → ℕ
count_so_far [] finished = length finished
count_so_far (o ∷ os) finished = count_so_far os finished + length o.terms

-- these groups are open, one for one, and the base of each is how many whole terms stand before
-- those in it
abbrev pub ShowsGroups : List ℕ → List Group → List Open → List Written → Type 0
ShowsGroups text [] [] finished = Unit {0}
ShowsGroups text (g ∷ gs) (o ∷ os) finished =
    ShowsOpening text g.heading o.opening × (g.base ≡ count_so_far os finished)
    × ShowsGroups text gs os finished
ShowsGroups text _ _ finished = ⊥

-- there is a term
abbrev pub HasSome : List Written → Type 0
HasSome [] = ⊥
HasSome (w ∷ ws) = Unit {0}

-- a term stands in the innermost group behind a whole term, and none behind an opening bracket
abbrev pub FitsStage : Stage → List Open → Type 0
FitsStage Settled (o ∷ os) = HasSome o.terms
FitsStage Bracketed (o ∷ os) = o.terms ≡ []
FitsStage _ _ = Unit {0}

-- the text is written or copied up to this place, and the trees are those of the whole terms
pub record Holds (text : List ℕ) (at : ℕ) (s : State) (os : List Open) (finished : List Written)
    (written : List ℕ) : Type 0 where
  pub groups : ShowsGroups text s.groups os finished
  pub good : GoodSoFar s.symbols os finished
  pub trees_are : s.trees ≡ trees_so_far s.symbols os finished
  pub copied_is : copied text at s.written s.from ≡ written
  pub from : s.from ≤ at
  pub is_pool : IsPool s.symbols

-- the stage is that of what was read, the innermost group fits it, and groups, trees and text are
-- those so far
pub record Shows (text : List ℕ) (at : ℕ) (s : State) (m : Progress) : Type 0 where
  pub stage : ShowsStage text s.stage m.stage
  pub fits : FitsStage m.stage m.groups
  pub holds : Holds text at s m.groups m.finished (text_at m.stage m.groups m.finished)
