-- A store that tests build terms in.
use Rattle.std.specs.Prelude.{◌≡◌, ◌≤◌, List, All, Bool, true, false}
use Rattle.term_model.specs.declared.Head.{Head}
use Rattle.term_model.specs.declared.Head.TheVariants.{App, Int, Nil, Cons}
use Rattle.symbol_pool.specs.Pool.{Named}
use Rattle.terms_api.specs.Terms.{Store, trees}
use Rattle.tree_text.specs.Text.{HasNames}

-- The caller is inside, three arguments fit, there are no more than a hundred rows, and the symbols
-- of the stack's trees are held.
pub record IsTried (names : List Named) (s : Store) : Type 0 where
  pub inside : s.inside ≡ true
  pub widest : 3 ≤ s.widest
  pub rows : s.rows ≤ 100
  pub named : All (HasNames names) (trees s)

-- whether the tree of a head is a list
abbrev pub is_list : Head → Bool
is_list (App f) = false
is_list (Int v) = false
is_list Nil = true
is_list Cons = true
