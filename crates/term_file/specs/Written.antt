-- A file that was written behind other bytes.
use Rattle.std.specs.Prelude.{◌≡◌, ℕ, ◌≤◌, List, ◌++◌, length}
use Rattle.symbol_pool.specs.Pool.{Named}
use Rattle.term_file.specs.File.{Terms, IsFile}

-- new is old with a file of the terms behind it; they have one
pub record AppendsFile (old new : List ℕ) (ts : Terms) : Type 0 where
  pub file : List ℕ
  pub is_file : IsFile file ts
  pub behind : new ≡ old ++ file

-- the size of a name, and the number of arguments, fit a byte
pub record IsShort (s : Named) : Type 0 where
  pub name : length s.name ≤ 255
  pub arity : s.arity ≤ 16
