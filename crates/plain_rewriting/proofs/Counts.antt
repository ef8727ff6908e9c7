-- There are no more different terms than terms.
use Rattle.std.proofs.Common.{ℕ, ◌+◌, ◌≤◌, List, length, drop, arith, length-drop}
use Rattle.term_model.specs.Tree.{distinct}
use Rattle.term_model.proofs.Members.{distinct_is_bounded}
use Rattle.plain_rewriting.specs.Boxed.{trees}
use Rattle.plain_rewriting.specs.declared.boxed.Term.{Term}
use Rattle.plain_rewriting.proofs.Binding.{length_trees}

pub few : (xs : List Term) (i : ℕ) → i ≤ length xs → distinct (trees (drop i xs)) + i ≤ length xs
few xs i l = omega (arith, distinct_is_bounded (trees (drop i xs)), length_trees (drop i xs), length-drop i xs)
