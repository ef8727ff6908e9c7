-- The file of the terms that an input spells.
use Rattle.std.specs.Prelude.{ℕ, ◌≤◌, List, []}
use Rattle.term_model.specs.Tree.{Tree}
use Rattle.symbol_pool.specs.Pool.{Named}
use Rattle.term_syntax.specs.Reading.{IsReading}
use Rattle.term_file.specs.File.{Terms, IsFile}
use Rattle.term_file.specs.NamedTree.{AreSame}
use Rattle.term_commands.specs.Different.{different}

-- a file of these terms, in which their symbols may have other numbers
pub record IsFileOf (symbols : List Named) (terms : List Tree) (file : List ℕ) : Type 0 where
  pub held : Terms
  pub is_file : IsFile file held
  pub same : AreSame symbols terms held.symbols held.trees

-- The input spells terms with no more different subtrees than there are rows, and this is their one
-- file. In the file the symbols have the numbers of their first use, so its terms are the same with
-- other numbers of their symbols.
pub record IsPacked (rows : ℕ) (input file : List ℕ) : Type 0 where
  pub symbols : List Named
  pub terms : List Tree
  pub read : IsReading input [] symbols terms
  pub fit : different terms ≤ rows
  pub held : Terms
  pub is_file : IsFile file held
  pub same : AreSame symbols terms held.symbols held.trees
