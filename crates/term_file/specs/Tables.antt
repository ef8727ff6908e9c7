-- A table of records, with the nodes of their trees.
use Rattle.std.specs.Prelude.{◌≡◌, ℕ, ◌+◌, ◌<◌, Some, slice_get, List, [], length, map, min, sum_by, slice_index, nat_lt, Bool, true}
use Rattle.std.specs.List.{list_all, AllByRecursion}
use Rattle.term_model.specs.Tree.{Tree, nodes}
use Rattle.term_file.specs.Contents.{Record, trees}
use Rattle.term_file.specs.Right.{all_after}

-- a count, or 2^64 - 1 where it is more
abbrev pub at_most : ℕ → ℕ
at_most n = min n 18446744073709551615

abbrev pub least_nodes : Tree → ℕ
least_nodes t = at_most (nodes t)

-- one node over trees that have these counts
abbrev pub least_over : List ℕ → List ℕ → ℕ
least_over counts arguments = at_most (sum_by (λ i. slice_index counts i) arguments + 1)

-- the arguments of each record have lesser numbers
abbrev pub has_lesser : List Record → Record → Bool
has_lesser before r = list_all (λ i. nat_lt i (length before)) r.arguments

pub record IsTable (records : List Record) (counts : List ℕ) : Type 0 where
  pub lesser : all_after has_lesser [] records ≡ true
  pub nodes_are : counts ≡ map least_nodes (trees records)

-- the same by numbers
pub record AreLesser (records : List Record) : Type 0 where
  pub lesser : (i : ℕ) (r : Record) → slice_get records i ≡ Some r
      → AllByRecursion (λ k. k < i) r.arguments
