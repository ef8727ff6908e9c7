-- What is true of the parts of an outermost step.
use Rattle.std.specs.Prelude.{◌≡◌, ℕ, ◌-◌, ◌<◌, ◌≤◌, List, [], ◌∷◌, ◌++◌, length}
use Rattle.term_model.specs.Tree.{Tree, Node, Trees, End, More, count_of}
use Rattle.term_model.specs.declared.Head.{Head}
use Rattle.rewrite_model.specs.Rule.{Rule}
use Rattle.rewrite_model.specs.Run.{noting, ends, ◌>>=◌, TooDeep}
use Rattle.rewrite_model.specs.Outermost.{build, Changed, step}
use Rattle.rule_code.specs.declared.step.Step.{Step}
use Rattle.rule_code.specs.Code.{code}
use Rattle.innermost.specs.Instances.{construct}
use Rattle.innermost.specs.Walking.{Crumb, onto, with_last, onward, pending}

-- The code of a pattern puts its instance on the stack and goes on.
abbrev pub CodeConstructs : Type 0
CodeConstructs =
    (bound : List Tree) (room : ℕ) (p : Tree) (down : ℕ) (is : List Step) (stack : List Tree)
    (fuel : ℕ) → room ≤ 4294967295 →
    construct bound room (code p down ++ is) stack fuel
    ≡ (build bound p fuel (room - down) >>=
    (λ t left. construct bound room is (stack ++ t ∷ []) left))

-- A walk goes on with the next argument, where there is one; else with the tree above.
abbrev pub GoesOn : Type 0
GoesOn =
    (rules : List Rule) (h : Head) (front : List Tree) (t : Tree) (us : Trees) (room : ℕ)
    (cs : List Crumb) (fuel : ℕ) →
    pending rules ((record { head = h; front = front; rest = More t us; room = room }) ∷ cs) fuel
    ≡ (step rules t fuel (room - length (front ++ t ∷ [])) >>= onward rules
    ((record { head = h; front = front ++ t ∷ []; rest = us; room = room }) ∷ cs))

abbrev pub LeavesTheSame : Type 0
LeavesTheSame = (rules : List Rule) (c : Crumb) (cs : List Crumb) (fuel : ℕ) → c.rest ≡ End
    → pending rules (c ∷ cs) fuel ≡ pending rules cs fuel

-- A tree over a changed argument is built again where it has room.
abbrev pub BuildsAgain : Type 0
BuildsAgain =
    (rules : List Rule) (c : Crumb) (cs : List Crumb) (u : Tree) (left : ℕ)
    → count_of (onto c.front c.rest) < c.room →
    onward rules (c ∷ cs) (Changed u) left ≡ noting (Node c.head (with_last c u))
    (onward rules cs (Changed (Node c.head (with_last c u))) left)

abbrev pub EndsForRoom : Type 0
EndsForRoom =
    (rules : List Rule) (c : Crumb) (cs : List Crumb) (u : Tree) (left : ℕ)
    → c.room ≤ count_of (onto c.front c.rest) →
    onward rules (c ∷ cs) (Changed u) left ≡ ends TooDeep
