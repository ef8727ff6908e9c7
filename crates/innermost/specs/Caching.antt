-- The evaluation of a term with a memory of results, one node after another.
use Rattle.std.specs.Prelude.{◌≡◌, ℕ, ◌+◌, ◌-◌, ◌<◌, ◌≤◌, List, [], ◌∷◌, ◌++◌, length, take, drop, map, max, Option, Some, false, All, Contains}
use Rattle.term_model.specs.Tree.{Tree, nodes}
use Rattle.term_model.specs.declared.Row.{Row}
use Rattle.terms_api.specs.Terms.{Store, IsSound, HasTree, trees, pushed, kept}
use Rattle.rewrite_model.specs.Rule.{Rule, IsUnconditional}
use Rattle.rewrite_model.specs.Step.{IsNormalForm}
use Rattle.rewrite_model.specs.Run.{ends, noting, OutOfFuel, TooDeep}
use Rattle.rewrite_model.specs.Evaluation.{Point, Evaluated, evaluation}
use Rattle.rewrite_model.specs.Built.{trees_in_hand, greatest}
use Rattle.rewrite_cache.specs.Cached.{IsCached, IsKnown, IsLeastRoom}
use Rattle.rule_match.specs.Planned.{Planned}
use Rattle.rule_code.specs.declared.compile.Code.{Code}
use Rattle.innermost.specs.declared.memo.Known.{Known}
use Rattle.innermost.specs.declared.normal.Normal.{Normal}
use Rattle.innermost.specs.declared.normal.Normal.TheVariants as normal
use Rattle.innermost.specs.declared.normal.RunFault.{RunFault}
use Rattle.rule_code.specs.Code.{code}
use Rattle.innermost.specs.Follow.{onto}
use Rattle.innermost.specs.State.{at_steps, whole, comes_to, reduces_to, point_of}
use Rattle.innermost.specs.Fits.{Fits}
use Rattle.innermost.specs.Whole.{AreNormal, AreArguments}
use Rattle.innermost.specs.Normalized.{KeepsNumbers}
use Rattle.innermost.specs.Standing.{with_notes, Ages, Why}
use Rattle.innermost.specs.Tasks.{Job, IsReady}
use Rattle.innermost.specs.Opened.{alone, IsTried}
use Rattle.innermost.specs.Remembered.{Map, IsRight, AreRight}

-- The same as `Stands` and `IsRefused` say, where what was built since the start are these trees,
-- and needn't be all of the points.
pub record Stood (start now : Store) (points : List Point) (since above : List Tree) : Type 0 where
  pub lower : take (length start.stack) now.stack ≡ start.stack
  pub upper : trees now ≡ trees start ++ above
  pub sound : IsSound now
  pub numbers : KeepsNumbers start now
  pub ages : Ages start now
  pub built : now.built ≡ start.built ++ since
  pub refusals : now.refusals ≡ start.refusals
  pub sweeps : now.sweeps + length start.built ≤ start.sweeps + length now.built
  pub load : start.stack ≡ [] → now.load ≤ max start.load (greatest (map trees_in_hand points))

pub record WasStopped (start now : Store) (points : List Point) (since : List Tree) (p : Point)
    (fault : RunFault) : Type 0 where
  pub above : List Tree
  pub lower : take (length start.stack) now.stack ≡ start.stack
  pub upper : trees now ≡ trees start ++ above
  pub sound : IsSound now
  pub numbers : KeepsNumbers start now
  pub ages : Ages start now
  pub built : now.built ≡ start.built ++ since
  pub refusals : start.refusals < now.refusals
  pub sweeps : now.sweeps + length start.built ≤ start.sweeps + length now.built + 1
  pub load : start.stack ≡ []
      → now.load ≤ max start.load (greatest (map trees_in_hand (points ++ p ∷ [])))
  pub why : Why start now p fault

-- The memory was right when the epoch was this one, of trees that were built by then.
pub record WasRight (rules : List Rule) (built : List Tree) (map' : Map) (number : Option ℕ)
    (now : Store) : Type 0 where
  pub then : Store
  pub epoch : number ≡ then.epoch
  pub ages : Ages then now
  pub right : AreRight rules built then map'

-- the epoch is still the same number
pub record IsSteady (epoch : Option ℕ) (now : Store) : Type 0 where
  pub number : ℕ
  pub before : epoch ≡ Some number
  pub same : now.epoch ≡ Some number

-- The tree of a row, which it had when the epoch was this one, has its value on top now, which it
-- comes to with this fuel, and `room` is the least in which it does.
pub record IsResult (rules : List Rule) (built : List Tree) (number : Option ℕ) (now : Store)
    (place : Row) (fuel room : ℕ) : Type 0 where
  pub then : Store
  pub epoch : number ≡ then.epoch
  pub ages : Ages then now
  pub tree : Tree
  pub value : Tree
  pub below : List Tree
  pub row : HasTree then place tree
  pub stood : Contains built tree
  pub top : trees now ≡ below ++ value ∷ []
  pub known : IsKnown rules tree value fuel room
  pub least : IsLeastRoom rules tree room
  pub normal : All IsUnconditional rules → IsNormalForm rules value

module _ (plan : Planned) (codes : Code) (start : Store) (term : Tree) (fuel : ℕ) (map' : Map) (epoch' : Option ℕ) where
  -- The nodes of the term before a place are evaluated, and what was built is a cached list.
  pub record IsCaching (at left : ℕ) (now : Store) : Type 0 where
    pub ready : IsReady plan codes start
    pub points : List Point
    pub since : List Tree
    pub values : List Tree
    pub stood : Stood start now points since values
    pub cached : IsCached plan.rules start.built points since
    pub memory : WasRight plan.rules (start.built ++ since) map' epoch' now
    pub run : onto [] (evaluation plan.rules term fuel codes.depth)
        ≡ with_notes points
        (comes_to plan.rules
        (at_steps (whole term codes.depth) (drop at (code term 0)) ∷ []) values left)
    pub fits : Fits 0 0 plan.widest false (length values) (drop at (code term 0))
    pub told : All IsUnconditional plan.rules → AreNormal plan.rules values
        × AreArguments (drop at (code term 0))

  -- The node at the place was built, and its tree on top is tried by the rules. The memory is of
  -- what was built before it.
  pub record IsOnNode (at left : ℕ) (now : Store) (next : Option ℕ) (room : ℕ) : Type 0 where
    pub ready : IsReady plan codes start
    pub points : List Point
    pub since : List Tree
    pub below : List Tree
    pub tree : Tree
    pub stood : Stood start now (points ++ point_of [] below tree room ∷ []) (since ++ tree ∷ [])
        (below ++ tree ∷ [])
    pub cached : IsCached plan.rules start.built points since
    pub memory : WasRight plan.rules (start.built ++ since) map' epoch' now
    pub run : onto [] (evaluation plan.rules term fuel codes.depth)
        ≡ with_notes points
        (noting (point_of [] below tree room)
        (reduces_to plan.rules
        (at_steps (whole term codes.depth) (drop (at + 1) (code term 0)) ∷ []) plan.rules
        below tree left room))
    pub tried : IsTried plan codes term at left below tree next room

  -- fuel or room ended
  pub record EndsCaching (now : Store) (rest : Evaluated (List Tree)) : Type 0 where
    pub points : List Point
    pub since : List Tree
    pub above : List Tree
    pub stood : Stood start now points since above
    pub cached : IsCached plan.rules start.built points since
    pub memory : WasRight plan.rules (start.built ++ since) map' epoch' now
    pub run : onto [] (evaluation plan.rules term fuel codes.depth) ≡ with_notes points rest

  -- a build was refused
  pub record GivesUpCaching (now : Store) (fault : RunFault) : Type 0 where
    pub points : List Point
    pub since : List Tree
    pub point : Point
    pub rest : Evaluated (List Tree)
    pub stopped : WasStopped start now points since point fault
    pub cached : IsCached plan.rules start.built points since
    pub memory : WasRight plan.rules (start.built ++ since) map' epoch' now
    pub run : onto [] (evaluation plan.rules term fuel codes.depth)
        ≡ with_notes points (noting point rest)

  -- one more node is evaluated, or fuel or room ended
  abbrev pub CachesNext : ℕ → Store → Normal → Type 0
  CachesNext at now (normal.Value left) = IsCaching (at + 1) left now
  CachesNext at now normal.OutOfFuel = EndsCaching now (ends OutOfFuel)
  CachesNext at now normal.TooDeep = EndsCaching now (ends TooDeep)

  -- all nodes are evaluated, or fuel or room ended
  abbrev pub CachingEnds : Store → Normal → Type 0
  CachingEnds now (normal.Value left) = IsCaching (nodes term) left now
  CachingEnds now normal.OutOfFuel = EndsCaching now (ends OutOfFuel)
  CachingEnds now normal.TooDeep = EndsCaching now (ends TooDeep)

-- What is known of the row on top was taken in its place.
pub record IsTaken (rules : List Rule) (built : List Tree) (old new : Store) (place : Row)
    (wide left rest : ℕ) : Type 0 where
  pub known : Known
  pub right : IsRight rules built old place known
  pub fuel : known.fuel + rest ≡ left
  pub room : known.depth ≤ wide
  pub middle : IsSound (kept old (length old.stack - 1) 0)
  pub replaced : new ≡ pushed (kept old (length old.stack - 1) 0) known.value
  pub sound : IsSound new

-- A tree that was just built, after these trees, is reduced by itself, over the stack of the start.
-- The sweep that building it may have taken is counted there.
abbrev pub itself : List Rule → Store → List Tree → Store → List Tree → Tree → ℕ → ℕ → Job
itself rules start before now below tree left room =
    record {
      start = record now
          { stack = start.stack; built = before; sweeps = max start.sweeps (now.sweeps - 1) };
      whole = with_notes (point_of [] below tree room ∷ [])
          (reduces_to rules [] rules below tree left room);
      bottom = [];
      floor = below;
      origin = alone tree left;
    }
