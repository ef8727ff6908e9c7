-- What the plain program's calls come to: the run of the definition, unless there is no memory. The
-- points or trees that the run notes are those that the call noted.
use Rattle.std.specs.Prelude.{◌≡◌, ℕ, ◌≤◌, List, ◌++◌, Result, Ok, Err, Bool, Vec, map}
use Rattle.std.specs.Global.{Global}
use Rattle.term_model.specs.Tree.{Tree}
use Rattle.rewrite_model.specs.Rule.{Rule, Condition}
use Rattle.rewrite_model.specs.Run.{Run, Ended, Done, OutOfFuel as NoFuel, TooDeep as NoRoom}
use Rattle.rewrite_model.specs.Evaluation.{Point, evaluate, evaluate_all, hold, replace, reduce_by, reduction}
use Rattle.plain_rewriting.specs.Boxed.{tree_of, trees_in, trees}
use Rattle.plain_rewriting.specs.Noted.{points_of}
use Rattle.plain_rewriting.specs.declared.points.Point.{Point as Pointed}
use Rattle.plain_rewriting.specs.declared.boxed.Term.{Term}
use Rattle.plain_rewriting.specs.declared.boxed.Arguments.{Arguments}
use Rattle.plain_rewriting.specs.declared.ends.End.{End}
use Rattle.plain_rewriting.specs.declared.ends.End.TheVariants as the_end
use Rattle.plain_rewriting.specs.declared.ends.NoValue.{NoValue}
use Rattle.plain_rewriting.specs.declared.ends.NoValue.TheVariants.{OutOfFuel, TooDeep, Memory}

-- an end, as the definitions have it
abbrev pub ended : End → Ended Tree
ended (the_end.Value t left) = Done (tree_of t) left
ended the_end.OutOfFuel = NoFuel
ended the_end.TooDeep = NoRoom

-- what was noted before, what the run noted as the call sees it, and the run's end
pub record Agrees {N M A : Type 0} (view : N → M) (old new : List M) (end : Ended A)
    (run : Run N A) : Type 0 where
  pub built : new ≡ old ++ map view run.notes
  pub ends : end ≡ run.end

-- a value leaves no more fuel than was given
abbrev pub ComesTo : {N M T A : Type 0} → (N → M) → (T → A) → List M → List M → ℕ
    → Result (T × ℕ) NoValue → Run N A → Type 0
ComesTo note view old new fuel (Ok r) run =
    Agrees note old new (Done (view r.0) r.1) run × (r.1 ≤ fuel)
ComesTo note view old new fuel (Err OutOfFuel) run = Agrees note old new NoFuel run
ComesTo note view old new fuel (Err TooDeep) run = Agrees note old new NoRoom run
ComesTo note view old new fuel (Err Memory) run = Unit {0}

abbrev pub same_point : Point → Point
same_point p = p

-- points, as the plain program notes them
abbrev pub Points : Type 0
Points = Vec Pointed Global

abbrev pub Built : Type 0
Built = Vec Term Global

-- The same for each part of the innermost evaluation, with these trees kept round it.
module _ (rules : List Rule) where
  abbrev pub Evaluates : List Term → List Term → Term → ℕ → ℕ → Points → Points
      → Result (Term × ℕ) NoValue → Type 0
  Evaluates bound kept p fuel room old new result = (k : List Tree) → k ≡ trees kept →
      ComesTo same_point tree_of (points_of old.items) (points_of new.items) fuel result
      (evaluate (reduction rules) (trees bound) (tree_of p) k fuel room)

  abbrev pub EvaluatesAll : List Term → List Term → Arguments → ℕ → ℕ → Points → Points
      → Result (Arguments × ℕ) NoValue → Type 0
  EvaluatesAll bound kept ps fuel room old new result = (k : List Tree) → k ≡ trees kept →
      ComesTo same_point trees_in (points_of old.items) (points_of new.items) fuel result
      (evaluate_all (reduction rules) (trees bound) (trees_in ps) k fuel room)

  abbrev pub Holds : List Term → List Term → List Condition → ℕ → ℕ → Points → Points
      → Result (Bool × ℕ) NoValue → Type 0
  Holds bound kept cs fuel room old new result = (k : List Tree) → k ≡ trees kept →
      ComesTo same_point (λ b. b) (points_of old.items) (points_of new.items) fuel result
      (hold (reduction rules) (trees bound) cs k fuel room)

  abbrev pub Replaces : List Term → List Term → Term → ℕ → ℕ → Points → Points
      → Result (Term × ℕ) NoValue → Type 0
  Replaces bound kept p fuel room old new result = (k : List Tree) → k ≡ trees kept →
      ComesTo same_point tree_of (points_of old.items) (points_of new.items) fuel result
      (replace (reduction rules) (trees bound) (tree_of p) k fuel room)

  abbrev pub Reduces : List Term → List Term → Term → ℕ → ℕ → Points → Points
      → Result (Term × ℕ) NoValue → Type 0
  Reduces given kept t fuel room old new result =
      (g k : List Tree) → g ≡ trees given → k ≡ trees kept →
      ComesTo same_point tree_of (points_of old.items) (points_of new.items) fuel result
      (reduction rules g k (tree_of t) fuel room)

  abbrev pub ReducesBy : List Rule → List Term → Term → ℕ → ℕ → Points → Points
      → Result (Term × ℕ) NoValue → Type 0
  ReducesBy rs kept t fuel room old new result = (k : List Tree) → k ≡ trees kept →
      ComesTo same_point tree_of (points_of old.items) (points_of new.items) fuel result
      (reduce_by (reduction rules) rs k (tree_of t) fuel room)
