-- Counting the nodes of trees by their rows. A row's count is 0 until its tree is counted.
use Rattle.std.specs.Prelude.{◌≡◌, ℕ, zero, suc, ◌+◌, ◌-◌, ◌*◌, ◌<◌, ◌≤◌, ◌⊎◌, List, [], ◌∷◌, Some, All, Contains, length, map, slice_get, slice_index_or, vec_len, vec_capacity}
use Rattle.term_model.specs.declared.Row.{Row}
use Rattle.term_model.specs.Tree.{Tree, arguments, nodes, subtrees, distinct}
use Rattle.terms_api.specs.Terms.{Store, HasTree, IsHeld, tree_at}
use Rattle.term_text.specs.declared.counting.Visit.{Visit}
use Rattle.term_text.specs.declared.counting.Tally.{Tally}
use Rattle.term_text.specs.Sizes.{saturated}

abbrev pub count_at : List ℕ → Row → ℕ
count_at counts r = slice_index_or counts r.0 0

abbrev pub IsCounted : List ℕ → Row → Type 0
IsCounted counts r = 0 < count_at counts r

-- a row with this tree is counted
abbrev pub HasCount : Store → List ℕ → Tree → Type 0
HasCount s counts t = (r : Row) × HasTree s r t × IsCounted counts r

-- the arguments of a row's tree before a place are counted
abbrev pub CountedBefore : Store → List ℕ → Row → ℕ → Type 0
CountedBefore s counts r n =
    (j : ℕ) (t : Tree) → j < n → slice_get (arguments (tree_at s r)) j ≡ Some t
    → HasCount s counts t

-- how many rows are counted
abbrev pub counted_rows : List ℕ → ℕ
counted_rows [] = 0
counted_rows (zero ∷ counts) = counted_rows counts
counted_rows (suc n ∷ counts) = counted_rows counts + 1

-- Each counted row has the count of its tree's nodes, and its arguments are counted. These rows are
-- listed, each once.
pub record IsTally (s : Store) (counts : List ℕ) (rows : List Row) : Type 0 where
  pub room : s.rows ≤ length counts
  pub held : (r : Row) → IsCounted counts r → IsHeld s r
  pub exact : (r : Row) → IsCounted counts r → count_at counts r ≡ saturated (nodes (tree_at s r))
  pub closed : (r : Row) (n : ℕ) → IsCounted counts r → CountedBefore s counts r n
  pub listed : (r : Row) → IsCounted counts r → Contains rows r
  pub only : (r : Row) → Contains rows r → IsCounted counts r
  pub size : counted_rows counts ≡ length rows
  pub once : distinct (map (tree_at s) rows) ≡ length rows

-- A row is visited that isn't counted, and its first arguments are.
pub record IsVisit (s : Store) (counts : List ℕ) (v : Visit) : Type 0 where
  pub held : IsHeld s v.row
  pub uncounted : count_at counts v.row ≡ 0
  pub before : CountedBefore s counts v.row v.next

-- Visited trees have fewer nodes than those visited before them.
abbrev pub Narrows : Store → List Visit → Type 0
Narrows s [] = Unit {0}
Narrows s (v ∷ vs) = All (λ w. nodes (tree_at s w.row) < nodes (tree_at s v.row)) vs × Narrows s vs

pub record IsHalfway (s : Store) (counts : List ℕ) (rows : List Row) (path : List Visit)
    : Type 0 where
  pub tally : IsTally s counts rows
  pub visits : All (IsVisit s counts) path
  pub narrows : Narrows s path

-- There is room for each row in the list and on the path.
pub record HasRoom (tally : Tally) : Type 0 where
  pub rows : vec_len tally.counts ≤ vec_capacity tally.rows
  pub path : vec_len tally.counts ≤ vec_capacity tally.path

-- a subtree of one of these trees
abbrev pub IsWithin : List Tree → Tree → Type 0
IsWithin ts u = (t : Tree) × Contains ts t × Contains (subtrees t) u

-- what is counted or visited are subtrees of these trees
pub record AreWithin (s : Store) (ts : List Tree) (counts : List ℕ) (path : List Visit)
    : Type 0 where
  pub counted : (r : Row) → IsCounted counts r → IsWithin ts (tree_at s r)
  pub visited : All (λ v. IsWithin ts (tree_at s v.row)) path

-- a row is counted, or it is visited
abbrev pub IsBegun : List ℕ → List Visit → Row → Type 0
IsBegun counts path r = IsCounted counts r ⊎ ((v : Visit) × Contains path v × (v.row ≡ r))

-- at most so many steps are left
abbrev pub steps_left : List ℕ → List Row → List Visit → ℕ
steps_left counts rows path = 2 * (length counts - length rows) - length path

-- Counting goes on: nothing counted is lost, and no other trees are counted.
pub record Continues (s : Store) (counts counts' : List ℕ) (rows rows' : List Row)
    (path path' : List Visit) : Type 0 where
  pub size : length counts' ≡ length counts
  pub kept : (r : Row) → IsCounted counts r → IsCounted counts' r
  pub begun : (r : Row) → IsBegun counts path r → IsBegun counts' path' r
  pub within : (ts : List Tree) → AreWithin s ts counts path → AreWithin s ts counts' path'
  pub fewer : steps_left counts' rows' path' < steps_left counts rows path

-- The first arguments are counted, and the next isn't.
pub record IsNext (s : Store) (counts : List ℕ) (row : Row) (v : Visit) : Type 0 where
  pub held : IsHeld s v.row
  pub tree : slice_get (arguments (tree_at s row)) v.next ≡ Some (tree_at s v.row)
  pub uncounted : count_at counts v.row ≡ 0
  pub before : CountedBefore s counts row v.next
