-- A small tree, and a stack that has grown by one.
use Rattle.std.specs.Prelude.{◌≡◌, [], ◌∷◌, ◌++◌}
use Rattle.term_model.specs.declared.Row.{Row}
use Rattle.term_model.specs.declared.Symbol.{Symbol}
use Rattle.term_model.specs.declared.Head.TheVariants.{App}
use Rattle.term_model.specs.Tree.{Tree, Node, End, More}
use Rattle.terms_api.specs.Terms.{Store, HasTree, trees}

-- a node over twice the same leaf
abbrev pub pair : Symbol → Symbol → Tree
pair leaf node = let t = Node (App leaf) End in Node (App node) (More t (More t End))

-- one more row is on top, with this tree, and the others keep their trees
pub record Grown (old new : Store) (t : Tree) : Type 0 where
  pub row : Row
  pub stack : new.stack ≡ old.stack ++ row ∷ []
  pub tree : HasTree new row t
  pub trees : trees new ≡ trees old ++ t ∷ []
  pub inside : new.inside ≡ old.inside
  pub widest : new.widest ≡ old.widest
