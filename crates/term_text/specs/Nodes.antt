-- How many nodes the trees of some rows have.
use Rattle.std.specs.Prelude.{ℕ, List, sum_by}
use Rattle.term_model.specs.declared.Row.{Row}
use Rattle.term_model.specs.Tree.{nodes}
use Rattle.terms_api.specs.Terms.{Store, tree_at}

abbrev pub nodes_at : Store → Row → ℕ
nodes_at s r = nodes (tree_at s r)

abbrev pub nodes_of_rows : Store → List Row → ℕ
nodes_of_rows s rows = sum_by (nodes_at s) rows
