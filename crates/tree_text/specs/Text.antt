-- The text of a tree: `f(a,b)` without spaces, a constant as its name alone, integers in decimal,
-- and lists in brackets, as `[a,b]`.
use Rattle.std.specs.Prelude.{◌≡◌, ℕ, List, [], ◌++◌, length, codes, decimal, Bool, true, ◌&&◌, nat_lt}
use Rattle.term_model.specs.declared.Symbol.{Symbol}
use Rattle.term_model.specs.declared.Head.{Head}
use Rattle.term_model.specs.declared.Head.TheVariants.{App, Int, Nil, Cons}
use Rattle.term_model.specs.Tree.{Tree, Leaf, Node, Trees, End, More}
use Rattle.symbol_pool.specs.Pool.{Named}

abbrev mutual
  -- the text of a tree, each name spelled by the function
  pub text_by : (Symbol → List ℕ) → Tree → List ℕ
  text_by spell (Leaf x) = []
  text_by spell (Node (App f) ts) = spell f ++ in_parentheses spell ts
  text_by spell (Node (Int v) ts) = decimal v
  text_by spell (Node Nil ts) = codes "[]"
  text_by spell (Node Cons ts) = codes "[" ++ elements spell ts ++ codes "]"

  -- the arguments of a symbol in parentheses, which no arguments don't have
  pub in_parentheses : (Symbol → List ℕ) → Trees → List ℕ
  in_parentheses spell End = []
  in_parentheses spell (More t ts) =
      codes "(" ++ text_by spell t ++ after_commas spell ts ++ codes ")"

  -- each tree after a comma
  pub after_commas : (Symbol → List ℕ) → Trees → List ℕ
  after_commas spell End = []
  after_commas spell (More t ts) = codes "," ++ text_by spell t ++ after_commas spell ts

  -- the elements of a cell over a tree and a list: the tree, and those of the list
  pub elements : (Symbol → List ℕ) → Trees → List ℕ
  elements spell (More t (More u End)) = text_by spell t ++ further_elements spell u
  elements spell _ = []

  -- the elements of a list, each after a comma
  pub further_elements : (Symbol → List ℕ) → Tree → List ℕ
  further_elements spell (Node Cons ts) = codes "," ++ elements spell ts
  further_elements spell _ = []

-- whether the symbol of a head is held
abbrev pub is_named : List Named → Head → Bool
is_named names (App f) = nat_lt f.0 (length names)
is_named names (Int v) = true
is_named names Nil = true
is_named names Cons = true

-- whether all symbols of a tree are held
abbrev mutual
  pub has_names : List Named → Tree → Bool
  has_names names (Leaf x) = true
  has_names names (Node h ts) = is_named names h && all_have_names names ts

  pub all_have_names : List Named → Trees → Bool
  all_have_names names End = true
  all_have_names names (More t ts) = has_names names t && all_have_names names ts

abbrev pub HasNames : List Named → Tree → Type 0
HasNames names t = has_names names t ≡ true
