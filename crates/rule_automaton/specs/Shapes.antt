-- Left sides as tests of places.
use Rattle.std.specs.Prelude.{◌≡◌, ℕ, zero, suc, ◌+◌, ◌<◌, ◌≤◌, ◌⊎◌, ◌&&◌, Bool, List, [], ◌∷◌, ◌++◌, Option, Some, None, if◌then◌else◌, length, take, map, slice_index_or, All, Contains}
use Rattle.std.specs.List.{list_all}
use Rattle.term_model.specs.Tree.{Tree, tree_eq}
use Rattle.term_model.specs.declared.Head.TheVariants.{App}
use Rattle.rewrite_model.specs.Matching.{match_of}
use Rattle.rule_match.specs.Preorder.{left_at}
use Rattle.rule_match.specs.Stands.{stands}
use Rattle.rewrite_model.specs.Rule.{Rule}
use Rattle.rule_automaton.specs.Places.{Tabled, HasKids}
use Rattle.rule_automaton.specs.declared.shapes.Test.{Test}
use Rattle.rule_automaton.specs.declared.shapes.Pair.{Pair}
use Rattle.rule_automaton.specs.declared.shapes.Shape.{Shape}

-- so many numbers in a row
abbrev pub numbers : ℕ → ℕ → List ℕ
numbers n zero = []
numbers n (suc count) = n ∷ numbers (n + 1) count

-- the tested symbol stands at its place
abbrev pub holds : (ℕ → Tree) → Test → Bool
holds at t = stands (App t.symbol) t.count (at t.place)

-- both places have equal trees
abbrev pub agrees : (ℕ → Tree) → Pair → Bool
agrees at p = tree_eq (at p.first) (at p.second)

abbrev pub all_hold : (ℕ → Tree) → List Test → Bool
all_hold at tests = list_all (λ (t : Test). holds at t) tests

abbrev pub all_agree : (ℕ → Tree) → List Pair → Bool
all_agree at pairs = list_all (λ (p : Pair). agrees at p) pairs

-- what is bound in the trees at the places: those at the places of the variables
abbrev pub bound_by : (ℕ → Tree) → List Test → List Pair → List ℕ → Option (List Tree)
bound_by at tests pairs variables =
    if all_hold at tests && all_agree at pairs then Some (map at variables) else None

-- the arguments of each tested place have the places from the test's base on
abbrev pub Follow : (ℕ → Tree) → List Test → Type 0
Follow at tests = All (λ (t : Test). HasKids at t.place t.count t.base) tests

-- the root, or the place of an argument of a tested node
pub record IsKid (t : Test) (place : ℕ) : Type 0 where
  pub from : t.base ≤ place
  pub below : place < t.base + t.count

abbrev pub IsUnder : List Test → ℕ → Type 0
IsUnder tests place = (place ≡ 0) ⊎ ((t : Test) × Contains tests t × IsKid t place)

-- Tests, pairs and variables match as a left side does, and a node is read before its arguments.
pub record IsShape (table : Tabled) (left : Tree) (tests : List Test) (pairs : List Pair)
    (variables : List ℕ) : Type 0 where
  pub means : (at : ℕ → Tree) → Follow at tests
      → match_of left (at 0) ≡ bound_by at tests pairs variables
  pub bases : All (λ (t : Test). table.base_of t.place t.count ≡ Some t.base) tests
  pub order : (k : ℕ) (d : Test) → k < length tests
      → IsUnder (take k tests) (slice_index_or tests k d).place
  pub variables_under : All (IsUnder tests) variables
  pub pairs_under : All (λ (p : Pair). IsUnder tests p.first × IsUnder tests p.second) pairs

abbrev pub HasShape : Tabled → Tree → Shape → Type 0
HasShape table left s = IsShape table left s.tests.items s.pairs.items s.variables.items

-- One more place of a variable is noted, its first one or a further one.
abbrev pub IsNoted : ℕ → ℕ → Shape → Shape → Type 0
IsNoted variable place old new = ((variable < length old.variables.items)
    × (new.variables.items ≡ old.variables.items)
    × (new.pairs.items ≡ old.pairs.items
    ++ record { first = slice_index_or old.variables.items variable 0; second = place } ∷ []))
    ⊎ ((length old.variables.items ≤ variable)
    × (new.variables.items ≡ old.variables.items ++ place ∷ [])
    × (new.pairs.items ≡ old.pairs.items))

-- the tests of a rule's shape
abbrev pub tests_at : List Shape → ℕ → List Test
tests_at [] r = []
tests_at (s ∷ ss) zero = s.tests.items
tests_at (s ∷ ss) (suc r) = tests_at ss r

abbrev pub pairs_at : List Shape → ℕ → List Pair
pairs_at [] r = []
pairs_at (s ∷ ss) zero = s.pairs.items
pairs_at (s ∷ ss) (suc r) = pairs_at ss r

-- the places of a rule's variables
abbrev pub variables_at : List Shape → ℕ → List ℕ
variables_at [] r = []
variables_at (s ∷ ss) zero = s.variables.items
variables_at (s ∷ ss) (suc r) = variables_at ss r

-- as many shapes as rules, each that of its rule's left side
pub record HaveShapes (table : Tabled) (rules : List Rule) (shapes : List Shape) : Type 0 where
  pub count : length shapes ≡ length rules
  pub each : (r : ℕ) → r < length shapes
      → IsShape table (left_at rules r) (tests_at shapes r) (pairs_at shapes r)
      (variables_at shapes r)
