-- A memory of results of reductions, and what is built with one.
use Rattle.std.specs.Prelude.{◌≡◌, ◌⊎◌, List, ◌∷◌, ◌++◌, Option, Some, All, Contains, Result, Ok, Err, true}
use Rattle.term_model.specs.Tree.{Tree}
use Rattle.term_model.specs.declared.Row.{Row}
use Rattle.terms_api.specs.Terms.{Store, HasTree}
use Rattle.rewrite_model.specs.Rule.{Rule, IsUnconditional}
use Rattle.rewrite_model.specs.Step.{IsNormalForm}
use Rattle.rewrite_model.specs.Evaluation.{Point}
use Rattle.rewrite_cache.specs.Cached.{IsCached, IsKnown, IsLeastRoom}
use Rattle.innermost.specs.declared.memo.Known.{Known}
use Rattle.innermost.specs.declared.normal.Normal.{Normal}
use Rattle.innermost.specs.declared.normal.RunFault.{RunFault}
use Rattle.innermost.specs.declared.normal.RunFault.TheVariants.{StoreFull, Worn}
use Rattle.innermost.specs.Normalized.{IsFullWithout, HandIsOf}

-- what is remembered of each row
abbrev pub Map : Type 0
Map = Row → Option Known

-- nothing new is remembered but this pair
abbrev pub IsPartWith : Map → Row → Known → Map → Type 0
IsPartWith old row known new = (other : Row) (k : Known) → new other ≡ Some k → (old other ≡ Some k)
    ⊎ ((other ≡ row) × (k ≡ known))

-- A pair is right: the tree of its row is one of those that were built, and its reduction gives the
-- tree of the value's row, for as much fuel as the pair says, and the room that it says is the
-- least in which it does. By rules without conditions the value is a normal form.
pub record IsRight (rules : List Rule) (built : List Tree) (s : Store) (place : Row)
    (pair : Known) : Type 0 where
  pub tree : Tree
  pub value : Tree
  pub row : HasTree s place tree
  pub held : HasTree s pair.value value
  pub stood : Contains built tree
  pub known : IsKnown rules tree value pair.fuel pair.depth
  pub least : IsLeastRoom rules tree pair.depth
  pub normal : All IsUnconditional rules → IsNormalForm rules value

abbrev pub AreRight : List Rule → List Tree → Store → Map → Type 0
AreRight rules built s map =
    (row : Row) (known : Known) → map row ≡ Some known → IsRight rules built s row known

-- What was built is a cached list of the points, which looks back on what was built before.
pub record BuildsSome (rules : List Rule) (points : List Point) (old new : Store) : Type 0 where
  pub trees : List Tree
  pub built : new.built ≡ old.built ++ trees
  pub cached : IsCached rules old.built points trees

-- A build was refused at one of the points: what was built is a cached list of the points before
-- it.
pub record StoppedAmong (rules : List Rule) (points : List Point) (old new : Store)
    (p : Point) : Type 0 where
  pub front : List Point
  pub back : List Point
  pub split : points ≡ front ++ p ∷ back
  pub some : BuildsSome rules front old new

abbrev pub WasRefusedAmong : List Rule → List Point → Store → Store → RunFault → Type 0
WasRefusedAmong rules points old new StoreFull = (p : Point) × StoppedAmong rules points old new p
    × IsFullWithout new p.tree × HandIsOf old new p
WasRefusedAmong rules points old new Worn =
    (p : Point) × StoppedAmong rules points old new p × (new.spent ≡ true)

-- what was built: a cached list of all that the definition builds, or of what it builds before the
-- refused tree
abbrev pub BuildsCached : List Rule → List Point → Store → Store → Result Normal RunFault → Type 0
BuildsCached rules points old new (Ok normal) = BuildsSome rules points old new
BuildsCached rules points old new (Err fault) = WasRefusedAmong rules points old new fault
