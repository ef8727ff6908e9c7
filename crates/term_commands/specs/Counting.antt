-- Counting the nodes that are built in a store.
use Rattle.std.specs.Prelude.{◌≡◌, ℕ, true, Contains, sum_by}
use Rattle.term_model.specs.declared.Row.{Row}
use Rattle.term_model.specs.Tree.{Tree, nodes}
use Rattle.terms_api.specs.Terms.{Store, HasTree, trees, reachable}
use Rattle.term_text.specs.Sizes.{saturated}
use Rattle.plain_store.specs.Contents.{Contents, store_of}
use Rattle.term_commands.specs.declared.counted.Counted.TheInside.{Inside}

-- no row has a tree
abbrev pub HasNone : Contents → Type 0
HasNone c = (r : Row) (t : Tree) → HasTree (store_of c) r t → ⊥

-- the trees of the stack have so many nodes, and no row has another tree than those under them
pub record IsCounted (s : Store) (count : ℕ) : Type 0 where
  pub nodes : count ≡ saturated (sum_by nodes (trees s))
  pub under : (r : Row) (t : Tree) → HasTree s r t → Contains (reachable s) t

-- where trees were built alone
abbrev pub IsExact : Inside → Type 0
IsExact c = c.built_alone ≡ true → IsCounted (store_of c.store) c.nodes
