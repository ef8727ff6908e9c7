-- Patterns are trees with variables, and a rule has two of them and conditions on their variables.
use Rattle.std.specs.Prelude.{◌≡◌, ℕ, ◌+◌, List, [], Option, Some, None, Bool, true, ◌&&◌, ◌==◌, if◌then◌else◌, nat_lt, option_and_then, All}
use Rattle.term_model.specs.Tree.{Tree, Leaf, Node, Trees, End, More}

-- two patterns whose values are to be equal, or to differ
pub record Condition : Type 0 where
  pub first : Tree
  pub second : Tree
  pub equal : Bool

-- The variables of the left side are numbered from 0 in order of first occurrence.
pub record Rule : Type 0 where
  pub left : Tree
  pub right : Tree
  pub conditions : List Condition
  pub vars : ℕ

-- How many variables there are with those of a pattern, where each that is new has the next number;
-- none where one has another number.
abbrev mutual
  pub count_from : Tree → ℕ → Option ℕ
  count_from (Leaf x) n = if nat_lt x n then Some n else if x == n then Some (n + 1) else None
  count_from (Node h ps) n = count_all_from ps n

  pub count_all_from : Trees → ℕ → Option ℕ
  count_all_from End n = Some n
  count_all_from (More p ps) n = option_and_then (λ m. count_all_from ps m) (count_from p n)

-- the variables are 0 to k - 1, in order of first occurrence
abbrev pub IsNumbered : Tree → ℕ → Type 0
IsNumbered p k = count_from p 0 ≡ Some k

-- the variables are below k
abbrev mutual
  pub is_below : ℕ → Tree → Bool
  is_below k (Leaf x) = nat_lt x k
  is_below k (Node h ps) = all_below k ps

  pub all_below : ℕ → Trees → Bool
  all_below k End = true
  all_below k (More p ps) = is_below k p && all_below k ps

abbrev pub IsBelow : ℕ → Tree → Type 0
IsBelow k p = is_below k p ≡ true

abbrev pub IsNode : Tree → Type 0
IsNode (Leaf x) = ⊥
IsNode (Node h ts) = Unit {0}

-- the left side is no variable, and the other sides have only its variables
pub record IsRule (r : Rule) : Type 0 where
  pub node : IsNode r.left
  pub numbered : IsNumbered r.left r.vars
  pub right : IsBelow r.vars r.right
  pub firsts : All (λ c. IsBelow r.vars c.first) r.conditions
  pub seconds : All (λ c. IsBelow r.vars c.second) r.conditions

abbrev pub IsUnconditional : Rule → Type 0
IsUnconditional r = r.conditions ≡ []
