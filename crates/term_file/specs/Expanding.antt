-- A term of a file as items, of which the last is written first.
use Rattle.std.specs.Prelude.{ℕ, List, ◌++◌, reverse}
use Rattle.std.specs.List.{flat_map}
use Rattle.term_model.specs.declared.Item.{Item}
use Rattle.term_model.specs.Postorder.{postorder}
use Rattle.term_file.specs.Contents.{Record, trees, tree_at}

-- the items of the tree of a record
abbrev pub items_at : List Record → ℕ → List Item
items_at records i = postorder (tree_at (trees records) i)

-- the items of the trees that are left, and those that were written, from the last to the first
abbrev pub items_left : List Record → List ℕ → List Item → List Item
items_left records numbers written = flat_map (items_at records) numbers ++ reverse written
