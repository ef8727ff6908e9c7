-- How a term ends and what it builds, by the strategy that rewrites it.
use Rattle.std.specs.Prelude.{◌≡◌, ℕ, List, ◌++◌, Bool, true, false, Result, Ok, Err}
use Rattle.std.specs.List.{flat_map}
use Rattle.term_model.specs.Tree.{Tree}
use Rattle.terms_api.specs.Terms.{Store}
use Rattle.rewrite_model.specs.Rule.{Rule}
use Rattle.rewrite_model.specs.Run.{Ended}
use Rattle.rewrite_model.specs.Evaluation.{Point, evaluation}
use Rattle.rewrite_model.specs.Built.{built_list}
use Rattle.rewrite_model.specs.Outermost.{outermost, outermost_built}
use Rattle.rewrite_cache.specs.Cached.{IsCached}
use Rattle.innermost.specs.Normalized.{WasRefused}
use Rattle.innermost.specs.BuiltTrees.{TreeWasRefused}
use Rattle.innermost.specs.Remembered.{WasRefusedAmong}
use Rattle.innermost.specs.declared.normal.Normal.{Normal}
use Rattle.innermost.specs.declared.normal.RunFault.{RunFault}
use Rattle.term_lines.specs.declared.strategy.Strategy.{Strategy}
use Rattle.term_lines.specs.declared.strategy.Strategy.TheVariants.{Innermost, Outermost}

-- how the evaluation of a term ends
abbrev pub ended : Strategy → List Rule → Tree → (fuel room : ℕ) → Ended Tree
ended Innermost rules term fuel room = (evaluation rules term fuel room).end
ended Outermost rules term fuel room = (outermost rules term fuel room).end

-- what it builds, in order
abbrev pub built_by : Strategy → List Rule → Tree → (fuel room : ℕ) → List Tree
built_by Innermost rules term fuel room = built_list rules term fuel room
built_by Outermost rules term fuel room = outermost_built rules term fuel room

-- what many terms build together
abbrev pub built_by_all : Strategy → List Rule → List Tree → (fuel room : ℕ) → List Tree
built_by_all strategy rules terms fuel room =
    flat_map (λ t. built_by strategy rules t fuel room) terms

-- the points of the innermost evaluation of a term
abbrev pub points_of : List Rule → Tree → (fuel room : ℕ) → List Point
points_of rules term fuel room = (evaluation rules term fuel room).notes

-- and of several terms, one after another
abbrev pub points_of_all : List Rule → List Tree → (fuel room : ℕ) → List Point
points_of_all rules terms fuel room = flat_map (λ t. points_of rules t fuel room) terms

-- Trees that a term builds after these: all, in order, or, where results of innermost rewriting are
-- remembered, a cached list of its points.
abbrev pub IsBuiltBy : Strategy → (remembered : Bool) → List Rule → Tree → (fuel room : ℕ)
    → (before trees : List Tree) → Type 0
IsBuiltBy Innermost true rules term fuel room before trees =
    IsCached rules before (points_of rules term fuel room) trees
IsBuiltBy Innermost false rules term fuel room before trees =
    trees ≡ built_by Innermost rules term fuel room
IsBuiltBy Outermost remembered rules term fuel room before trees =
    trees ≡ built_by Outermost rules term fuel room

-- the same of several terms, one after another
abbrev pub AreBuiltBy : Strategy → (remembered : Bool) → List Rule → List Tree → (fuel room : ℕ)
    → (before trees : List Tree) → Type 0
AreBuiltBy Innermost true rules terms fuel room before trees =
    IsCached rules before (points_of_all rules terms fuel room) trees
AreBuiltBy Innermost false rules terms fuel room before trees =
    trees ≡ built_by_all Innermost rules terms fuel room
AreBuiltBy Outermost remembered rules terms fuel room before trees =
    trees ≡ built_by_all Outermost rules terms fuel room

-- such trees were built behind those before
pub record Adds (P : (before trees : List Tree) → Type 0) (before after : List Tree) : Type 0 where
  pub trees : List Tree
  pub are : P before trees
  pub built : after ≡ before ++ trees

-- A tree that the term builds was refused, and those before it were built. Of innermost rewriting
-- it is known too what was in hand then.
abbrev pub RefusedBy : Strategy → (remembered : Bool) → List Rule → Tree → (fuel room : ℕ) → Store
    → Store → RunFault → Type 0
RefusedBy Innermost true rules term fuel room old new fault =
    WasRefusedAmong rules (points_of rules term fuel room) old new fault
RefusedBy Innermost false rules term fuel room old new fault =
    WasRefused (points_of rules term fuel room) old new fault
RefusedBy Outermost remembered rules term fuel room old new fault =
    TreeWasRefused (outermost_built rules term fuel room) old new fault

-- what was built: all that the term builds, or what it builds before the refused tree
abbrev pub BuildsBy : Strategy → (remembered : Bool) → List Rule → Tree → (fuel room : ℕ) → Store
    → Store → Result Normal RunFault → Type 0
BuildsBy strategy remembered rules term fuel room old new (Ok normal) =
    Adds (IsBuiltBy strategy remembered rules term fuel room) old.built new.built
BuildsBy strategy remembered rules term fuel room old new (Err fault) =
    RefusedBy strategy remembered rules term fuel room old new fault
