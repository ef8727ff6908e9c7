-- The canonical text of a tree: its text, with each name plain where it can be, else in quotes.
use Rattle.std.specs.Prelude.{◌≡◌, ℕ, List, [], ◌∷◌, ◌++◌, length, codes, unwrap_or, slice_get, nat_le, Option, Some, None, Bool, true, false, ◌&&◌, ◌||◌, ◌==◌, if◌then◌else◌}
use Rattle.std.specs.List.{list_all}
use Rattle.term_model.specs.declared.Symbol.{Symbol}
use Rattle.term_model.specs.declared.Head.{Head}
use Rattle.term_model.specs.declared.Head.TheVariants.{App, Int, Nil, Cons}
use Rattle.term_model.specs.Tree.{Tree, Leaf, Node, Trees, End, More, count_of, IsWellFormed}
use Rattle.symbol_pool.specs.Pool.{Named, name_at}
use Rattle.tree_text.specs.NameBytes.{begins_name, continues_name, is_printable}
use Rattle.tree_text.specs.Text.{text_by}

-- whether a name can be plain
abbrev pub is_plain : List ℕ → Bool
is_plain [] = false
is_plain (b ∷ bs) = begins_name b && list_all continues_name bs

-- the bytes of a name between quotes: a quote or a backslash stands behind a backslash
abbrev pub escaped : List ℕ → List ℕ
escaped [] = []
escaped (b ∷ bs) = if b == 34 || b == 92 then 92 ∷ b ∷ escaped bs else b ∷ escaped bs

-- a name as it is written
abbrev pub spelled_name : List ℕ → List ℕ
spelled_name name = if is_plain name then name else codes "\"" ++ escaped name ++ codes "\""

-- the name of a symbol as it is written
abbrev pub spelling : List Named → Symbol → List ℕ
spelling names f = spelled_name (unwrap_or (name_at names f) [])

abbrev pub canonical : List Named → Tree → List ℕ
canonical names t = text_by (spelling names) t

-- a symbol with so many arguments can be written so that it is read back: it has as many, at most
-- 16, and a name of at most 255 printable bytes
abbrev pub is_writable_symbol : Option Named → ℕ → Bool
is_writable_symbol (Some s) n =
    s.arity == n && (nat_le n 16 && (nat_le (length s.name) 255 && list_all is_printable s.name))
is_writable_symbol None n = false

abbrev pub is_writable_head : List Named → Head → ℕ → Bool
is_writable_head names (App f) n = is_writable_symbol (slice_get names f.0) n
is_writable_head names (Int v) n = nat_le v 18446744073709551615
is_writable_head names Nil n = true
is_writable_head names Cons n = true

-- so can a tree without variables of such symbols
abbrev mutual
  pub is_writable : List Named → Tree → Bool
  is_writable names (Leaf x) = false
  is_writable names (Node h ts) = is_writable_head names h (count_of ts) && all_writable names ts

  pub all_writable : List Named → Trees → Bool
  all_writable names End = true
  all_writable names (More t ts) = is_writable names t && all_writable names ts

pub record IsWritable (names : List Named) (t : Tree) : Type 0 where
  pub well_formed : IsWellFormed t
  pub writable : is_writable names t ≡ true

-- the canonical texts of trees, each with a line feed
abbrev pub canonical_lines : List Named → List Tree → List ℕ
canonical_lines names [] = []
canonical_lines names (t ∷ ts) = canonical names t ++ 10 ∷ canonical_lines names ts
