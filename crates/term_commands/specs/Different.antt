-- How many different trees there are in terms.
use Rattle.std.specs.Prelude.{ℕ, List}
use Rattle.std.specs.List.{flat_map}
use Rattle.term_model.specs.Tree.{Tree, subtrees, distinct}

-- how many different subtrees the terms have together
abbrev pub different : List Tree → ℕ
different ts = distinct (flat_map subtrees ts)
