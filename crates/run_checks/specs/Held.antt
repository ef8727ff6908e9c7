-- What a table of terms holds, and how it grows.
use Rattle.std.specs.Prelude.{◌≡◌, ℕ, ◌<◌, ◌≤◌, List, length, map, Option, Some, None}
use Rattle.symbol_pool.specs.Pool.{Named}
use Rattle.term_model.specs.declared.Symbol.{Symbol}
use Rattle.term_model.specs.declared.Head.TheVariants.{App}
use Rattle.term_model.specs.Tree.{Tree, Node, trees_of}
use Rattle.term_file.specs.Contents.{tree_at}

-- symbols, and terms by their numbers
pub record Held : Type 0 where
  pub symbols : List Named
  pub terms : List Tree

abbrev pub term_at : Held → ℕ → Tree
term_at h n = tree_at h.terms n

abbrev pub IsThere : Held → ℕ → Type 0
IsThere h n = n < length h.terms

-- a symbol over terms, by their numbers
abbrev pub term_over : Held → Symbol → List ℕ → Tree
term_over h f ns = Node (App f) (trees_of (map (term_at h) ns))

-- the symbols are the same, and each term keeps its number
pub record Grows (old new : Held) : Type 0 where
  pub symbols : new.symbols ≡ old.symbols
  pub count : length old.terms ≤ length new.terms
  pub same : (n : ℕ) → IsThere old n → term_at new n ≡ term_at old n

-- this term has now this number
pub record IsPut (old new : Held) (n : ℕ) (t : Tree) : Type 0 where
  pub grows : Grows old new
  pub there : IsThere new n
  pub term : term_at new n ≡ t

-- the term with this number is this one; no number where there is none
abbrev pub IsReplayed : Held → Held → Option Tree → Option ℕ → Type 0
IsReplayed old new o None = o ≡ None
IsReplayed old new None (Some n) = ⊥
IsReplayed old new (Some t) (Some n) = IsPut old new n t
