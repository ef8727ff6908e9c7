-- What is true of all matching, evaluations and runs.
use Rattle.std.specs.Prelude.{◌≡◌, ◌↔◌, ℕ, ◌+◌, ◌≤◌, List, [], ◌∷◌, ◌++◌, length, Some, All, Contains}
use Rattle.term_model.specs.Tree.{Tree, IsGround, distinct}
use Rattle.term_model.specs.Laws.{IsSubtree}
use Rattle.rewrite_model.specs.Rule.{Rule, IsRule, IsNode, IsNumbered, IsUnconditional}
use Rattle.rewrite_model.specs.Matching.{match_of, instance}
use Rattle.rewrite_model.specs.Run.{Done}
use Rattle.rewrite_model.specs.Evaluation.{reduction, begin, evaluation}
use Rattle.rewrite_model.specs.Step.{Step, Reaches, ReachesInSteps, IsNormalForm}
use Rattle.rewrite_model.specs.Steps.{steps_of}
use Rattle.rewrite_model.specs.Outermost.{Same, Changed, step, outermost, outermost_built}
use Rattle.rewrite_model.specs.Built.{built_list, need, distinct_built, need_of_all}

-- A pattern matches exactly its instances, and binds a tree to each variable in order.
abbrev pub MatchGivesInstance : Type 0
MatchGivesInstance = (p t : Tree) (bound : List Tree) → match_of p t ≡ Some bound
    → instance p bound ≡ t

abbrev pub MatchBindsVariables : Type 0
MatchBindsVariables = (p t : Tree) (k : ℕ) (bound : List Tree) → IsNumbered p k
    → match_of p t ≡ Some bound → length bound ≡ k

abbrev pub InstancesMatch : Type 0
InstancesMatch = (p : Tree) (k : ℕ) (bound : List Tree) → IsNumbered p k → length bound ≡ k
    → match_of p (instance p bound) ≡ Some bound

-- Reducing by all rules begins with itself for the reductions inside.
abbrev pub BeginsWithItself : Type 0
BeginsWithItself = (rules : List Rule) (given kept : List Tree) (t : Tree) (fuel room : ℕ)
    → reduction rules given kept t fuel room ≡ begin (reduction rules) rules given kept t fuel room

-- No more fuel is left than was given.
abbrev pub FuelFalls : Type 0
FuelFalls = (rules : List Rule) (t u : Tree) (fuel room left : ℕ)
    → (evaluation rules t fuel room).end ≡ Done u left → left ≤ fuel

-- With more fuel a value stays, for the same use of fuel and by the same points.
abbrev pub MoreFuelIsLeft : Type 0
MoreFuelIsLeft = (rules : List Rule) (t u : Tree) (fuel room left more : ℕ)
    → (evaluation rules t fuel room).end ≡ Done u left →
    evaluation rules t (fuel + more) room
    ≡ record { notes = (evaluation rules t fuel room).notes; end = Done u (left + more) }

-- Every subtree of a built tree is built, before it or as the tree itself.
abbrev pub SubtreesAreBuilt : Type 0
SubtreesAreBuilt = (rules : List Rule) (term : Tree) (fuel room : ℕ) → All IsRule rules
    → IsGround term →
    (front back : List Tree) (t u : Tree) → built_list rules term fuel room ≡ front ++ t ∷ back
    → IsSubtree u t → Contains (front ++ t ∷ []) u

-- The same of what outermost evaluation builds.
abbrev pub OutermostSubtreesAreBuilt : Type 0
OutermostSubtreesAreBuilt = (rules : List Rule) (term : Tree) (fuel room : ℕ) → All IsRule rules
    → IsGround term →
    (front back : List Tree) (t u : Tree) → outermost_built rules term fuel room ≡ front ++ t ∷ back
    → IsSubtree u t → Contains (front ++ t ∷ []) u

-- The trees in hand are built trees: a term needs no more than it builds, and so do many.
abbrev pub NeedIsBounded : Type 0
NeedIsBounded = (rules : List Rule) (term : Tree) (fuel room : ℕ) → All IsRule rules
    → IsGround term →
    need rules term fuel room ≤ distinct (built_list rules term fuel room)

abbrev pub NeedOfAllIsBounded : Type 0
NeedOfAllIsBounded = (rules : List Rule) (terms : List Tree) (fuel room : ℕ) → All IsRule rules
    → All IsGround terms →
    need_of_all rules terms fuel room ≤ distinct_built rules terms fuel room

-- By rules without conditions, of which no left side is a variable, the value of a term is reached
-- from the term by single steps, and is a normal form.
abbrev pub ValueIsReached : Type 0
ValueIsReached = (rules : List Rule) → All (λ (r : Rule). IsNode r.left) rules
    → All IsUnconditional rules →
    (t u : Tree) (fuel room left : ℕ) → (evaluation rules t fuel room).end ≡ Done u left
    → Reaches rules t u × IsNormalForm rules u

-- The same holds of outermost evaluation, whatever the left sides are.
abbrev pub OutermostValueIsReached : Type 0
OutermostValueIsReached = (rules : List Rule) (t u : Tree) (fuel room left : ℕ)
    → (outermost rules t fuel room).end ≡ Done u left →
    Reaches rules t u × IsNormalForm rules u

-- An outermost step that changes the tree takes exactly one unit of fuel, and one that leaves it
-- the same takes none; so a value has taken as many units as steps lead to it.
abbrev pub ChangeTakesOne : Type 0
ChangeTakesOne = (rules : List Rule) (t u : Tree) (fuel room left : ℕ)
    → (step rules t fuel room).end ≡ Done (Changed u) left → fuel ≡ left + 1

abbrev pub SameTakesNone : Type 0
SameTakesNone = (rules : List Rule) (t : Tree) (fuel room left : ℕ)
    → (step rules t fuel room).end ≡ Done Same left → fuel ≡ left

abbrev pub OutermostFuelIsSteps : Type 0
OutermostFuelIsSteps = (rules : List Rule) (t u : Tree) (fuel room left : ℕ)
    → (outermost rules t fuel room).end ≡ Done u left →
    (n : ℕ) × (fuel ≡ left + n) × ReachesInSteps rules n t u

-- A tree is reached by one step exactly where it is one of the steps of the tree, so that a normal
-- form is exactly a tree without steps.
abbrev pub StepsAreAll : Type 0
StepsAreAll = (rules : List Rule) (t u : Tree) → Contains (steps_of rules t) u ↔ Step rules t u

abbrev pub NormalHasNone : Type 0
NormalHasNone = (rules : List Rule) (t : Tree) → IsNormalForm rules t ↔ (steps_of rules t ≡ [])
