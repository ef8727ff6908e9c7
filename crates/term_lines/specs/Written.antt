-- What making the line of a term leaves.
use Rattle.std.specs.Prelude.{◌≡◌, ℕ, ◌+◌, ◌<◌, ◌≤◌, List, ◌++◌, Bool, true, false, length, slice_index_or, Result, Ok, Err}
use Rattle.term_model.specs.Tree.{Tree, Leaf, IsGround}
use Rattle.terms_api.specs.Terms.{Store, trees}
use Rattle.symbol_pool.specs.Pool.{Named}
use Rattle.term_text.specs.Text.{HasNames}
use Rattle.rewrite_model.specs.Rule.{Rule}
use Rattle.rewrite_model.specs.Run.{Ended}
use Rattle.rewrite_model.specs.Built.{need}
use Rattle.rule_match.specs.Planned.{Planned, IsPlain}
use Rattle.innermost.specs.Machines.{Made, IsFor}
use Rattle.innermost.specs.Normalized.{Answers, StackIsBack, LoadsNeedAtMost, KeepsNumbers}
use Rattle.innermost.specs.Remembered.{Map, AreRight}
use Rattle.innermost.specs.declared.normal.Normal.{Normal}
use Rattle.innermost.specs.declared.normal.RunFault.TheVariants as fault
use Rattle.term_lines.specs.declared.strategy.Strategy.{Strategy}
use Rattle.term_lines.specs.declared.strategy.Strategy.TheVariants.{Innermost}
use Rattle.line_ends.specs.declared.stop.LineStop.{LineStop}
use Rattle.line_ends.specs.declared.stop.LineStop.TheVariants.{StoreFull, Worn, Memory}
use Rattle.term_lines.specs.Strategies.{ended, IsBuiltBy, Adds, RefusedBy}

-- the tree of the first place of the stack
abbrev pub top_tree : Store → Tree
top_tree s = slice_index_or (trees s) 0 (Leaf 0)

-- There is one tree on the stack, whose symbols have names.
pub record HasValueAlone (s : Store) (names : List Named) : Type 0 where
  pub alone : length s.stack ≡ 1
  pub named : HasNames names (top_tree s)

-- A term ends as the definition says; where it stops the stack is as it was.
abbrev pub Finishes : Ended Tree → Store → Store → Result Normal LineStop → Type 0
Finishes end old new (Ok normal) = Answers end old new (Ok normal)
Finishes end old new (Err stop) = StackIsBack old new

-- all that a term builds was built, but what is remembered
abbrev pub BuildsWhole : Strategy → (remembered : Bool) → List Rule → Tree → (fuel room : ℕ) → Store
    → Store → Type 0
BuildsWhole strategy remembered rules term fuel room old new =
    Adds (IsBuiltBy strategy remembered rules term fuel room) old.built new.built

-- The first of what a term builds was built; all of it where no events are told, since only they
-- want memory before the line.
pub record BuildsFront (strategy : Strategy) (told remembered : Bool) (rules : List Rule)
    (term : Tree) (fuel room : ℕ) (old new : Store) : Type 0 where
  pub front : List Tree
  pub rest : List Tree
  pub split : IsBuiltBy strategy remembered rules term fuel room old.built (front ++ rest)
  pub built : new.built ≡ old.built ++ front
  pub whole : told ≡ false → BuildsWhole strategy remembered rules term fuel room old new

-- What was built: all that the definition builds; where a build was refused, what it builds before
-- that tree; and where there was no memory, the first of it.
abbrev pub BuildsForLine : {A : Type 0} → Strategy → (told remembered : Bool) → List Rule → Tree
    → (fuel room : ℕ) → Store → Store → Result A LineStop → Type 0
BuildsForLine strategy told remembered rules term fuel room old new (Ok _) =
    BuildsWhole strategy remembered rules term fuel room old new
BuildsForLine strategy told remembered rules term fuel room old new (Err StoreFull) =
    RefusedBy strategy remembered rules term fuel room old new fault.StoreFull
BuildsForLine strategy told remembered rules term fuel room old new (Err Worn) =
    RefusedBy strategy remembered rules term fuel room old new fault.Worn
BuildsForLine strategy told remembered rules term fuel room old new (Err Memory) =
    BuildsFront strategy told remembered rules term fuel room old new

-- where results are remembered, each that is known is right
abbrev pub MayRecall : (remembered : Bool) → List Rule → Store → Map → Type 0
MayRecall true rules s map = AreRight rules s.built s map
MayRecall false rules s map = Unit {0}

-- A build was refused where rows or numbers are wanted, and nowhere else.
abbrev pub CountsRefusals : {A : Type 0} → Store → Store → Result A LineStop → Type 0
CountsRefusals old new (Ok _) = new.refusals ≡ old.refusals
CountsRefusals old new (Err StoreFull) = old.refusals < new.refusals
CountsRefusals old new (Err Worn) = old.refusals < new.refusals
CountsRefusals old new (Err Memory) = new.refusals ≡ old.refusals

-- at most so many more sweeps than trees built
abbrev pub SweepsMore : Store → Store → ℕ → Type 0
SweepsMore old new more = new.sweeps + length old.built ≤ old.sweeps + length new.built + more

-- no more sweeps than trees built, and one more where a build was refused
abbrev pub SweepsForLine : {A : Type 0} → Store → Store → Result A LineStop → Type 0
SweepsForLine old new (Ok _) = SweepsMore old new 0
SweepsForLine old new (Err StoreFull) = SweepsMore old new 1
SweepsForLine old new (Err Worn) = SweepsMore old new 1
SweepsForLine old new (Err Memory) = SweepsMore old new 0

-- A machine that was made for the plan may rewrite the term on the store: its caller is inside, the
-- term is ground and plain, rows are wide enough, and the stack has places for the machine.
pub record MayRewrite (plan : Planned) (made : Made) (term : Tree) (s : Store) : Type 0 where
  pub inside : s.inside ≡ true
  pub machine : IsFor plan made
  pub no_variables : IsGround term
  pub plain : IsPlain plan.widest term
  pub width : plan.widest ≤ s.widest
  pub free : length s.stack + made.depth ≤ s.room

-- A term is rewritten for its line: how that ends, and what it builds and costs.
pub record IsRewritten (strategy : Strategy) (told remembered : Bool) (rules : List Rule)
    (term : Tree) (fuel room : ℕ) (old new : Store) (result : Result Normal LineStop) : Type 0 where
  pub answer : Finishes (ended strategy rules term fuel room) old new result
  pub built : BuildsForLine strategy told remembered rules term fuel room old new result
  pub refusals : CountsRefusals old new result
  pub sweeps : SweepsForLine old new result
  pub load : strategy ≡ Innermost → LoadsNeedAtMost (need rules term fuel room) old new
  pub numbers : KeepsNumbers old new
