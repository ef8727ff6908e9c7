-- What a term file holds: symbols, records and roots. Symbols and records are numbered from 0, in
-- their order.
use Rattle.std.specs.Prelude.{ℕ, List, [], ◌∷◌, ◌++◌, map, slice_get, unwrap_or}
use Rattle.std.specs.Option.{option_map_or}
use Rattle.term_model.specs.declared.Head.{Head}
use Rattle.term_model.specs.Tree.{Tree, Leaf, Node, trees_of}
use Rattle.symbol_pool.specs.Pool.{Named}

-- a head over records, which are given by their numbers
pub record Record : Type 0 where
  pub head : Head
  pub arguments : List ℕ

pub record Contents : Type 0 where
  pub symbols : List Named
  pub records : List Record
  pub roots : List ℕ

abbrev pub nothing : Contents
nothing = record { symbols = []; records = []; roots = [] }

-- a table with an entry for each record, made of the entries before it and of the record
abbrev pub table_after : {X : Type 0} → (List X → Record → X) → List X → List Record → List X
table_after make table [] = table
table_after make table (r ∷ rs) = table_after make (table ++ make table r ∷ []) rs

abbrev pub table_of : {X : Type 0} → (List X → Record → X) → List Record → List X
table_of make rs = table_after make [] rs

-- the tree of a record: its head over the trees of its arguments
abbrev pub tree_at : List Tree → ℕ → Tree
tree_at trees i = unwrap_or (slice_get trees i) (Leaf 0)

abbrev pub tree_over : List Tree → Record → Tree
tree_over trees r = Node r.head (trees_of (map (tree_at trees) r.arguments))

abbrev pub trees : List Record → List Tree
trees rs = table_of tree_over rs

-- the terms of a file are the trees of its roots
abbrev pub terms : Contents → List Tree
terms c = map (tree_at (trees c.records)) c.roots

-- the arguments of the record with a number
abbrev pub arguments_at : List Record → ℕ → List ℕ
arguments_at records i = option_map_or (λ r. r.arguments) (slice_get records i) []
