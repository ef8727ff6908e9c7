-- What building the terms of a text gives.
use Rattle.std.specs.Prelude.{◌≡◌, ℕ, List, map}
use Rattle.symbol_pool.specs.Pool.{Named, IsPool}
use Rattle.term_model.specs.Tree.{Tree}
use Rattle.term_syntax.specs.Reading.{Spells}
use Rattle.term_syntax.specs.TakenUp.{tree_in}
use Rattle.term_syntax.specs.Written.{Written}
use Rattle.term_building.specs.Text.{lines_of}
use Rattle.term_building.specs.Trees.{AllGood}

-- the text spells these terms, with nothing amiss where these are the symbols, and these are their
-- trees and lines
pub record IsBuilt (text : List ℕ) (symbols : List Named) (trees : List Tree)
    (lines : List ℕ) : Type 0 where
  pub terms : List Written
  pub spelled : Spells text terms
  pub good : AllGood symbols terms
  pub is_pool : IsPool symbols
  pub trees_are : trees ≡ map (tree_in symbols) terms
  pub lines_are : lines ≡ lines_of terms
