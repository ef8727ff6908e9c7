-- What is built of a list of trees, on a store of terms.
use Rattle.std.specs.Prelude.{◌≡◌, List, ◌∷◌, ◌++◌, Result, Ok, Err, true}
use Rattle.term_model.specs.Tree.{Tree}
use Rattle.terms_api.specs.Terms.{Store}
use Rattle.innermost.specs.declared.normal.Normal.{Normal}
use Rattle.innermost.specs.declared.normal.RunFault.{RunFault}
use Rattle.innermost.specs.declared.normal.RunFault.TheVariants.{StoreFull, Worn}
use Rattle.innermost.specs.Normalized.{IsFullWithout}

-- One of the trees was refused: what was built are those before it.
pub record StoppedBefore (trees : List Tree) (old new : Store) (t : Tree) : Type 0 where
  pub front : List Tree
  pub back : List Tree
  pub split : trees ≡ front ++ t ∷ back
  pub built : new.built ≡ old.built ++ front

abbrev pub TreeWasRefused : List Tree → Store → Store → RunFault → Type 0
TreeWasRefused trees old new StoreFull =
    (t : Tree) × StoppedBefore trees old new t × IsFullWithout new t
TreeWasRefused trees old new Worn = (t : Tree) × StoppedBefore trees old new t × (new.spent ≡ true)

-- what was built: all these trees, or those before the refused one
abbrev pub BuildsTrees : List Tree → Store → Store → Result Normal RunFault → Type 0
BuildsTrees trees old new (Ok normal) = new.built ≡ old.built ++ trees
BuildsTrees trees old new (Err fault) = TreeWasRefused trees old new fault
