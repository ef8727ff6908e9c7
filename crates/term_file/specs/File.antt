-- The bytes of a term file. Numbers are big-endian.
use Rattle.std.specs.Prelude.{◌≡◌, ℕ, List, ◌++◌, length, codes}
use Rattle.std.specs.List.{flat_map}
use Rattle.byteorder.specs.Endian.{big_bytes}
use Rattle.term_model.specs.declared.Head.{Head}
use Rattle.term_model.specs.declared.Head.TheVariants.{App, Int, Nil, Cons}
use Rattle.term_model.specs.Tree.{Tree}
use Rattle.symbol_pool.specs.Pool.{Named}
use Rattle.term_file.specs.Contents.{Record, Contents, terms}
use Rattle.term_file.specs.Right.{IsRight}

-- a symbol: how many bytes its name has, the name, and how many arguments it has
abbrev pub symbol_bytes : Named → List ℕ
symbol_bytes s = big_bytes 1 (length s.name) ++ (s.name ++ big_bytes 1 s.arity)

-- a head: its tag, and the number of a symbol or the value of an integer
abbrev pub head_bytes : Head → List ℕ
head_bytes (App f) = big_bytes 1 0 ++ big_bytes 4 f.0
head_bytes (Int v) = big_bytes 1 1 ++ big_bytes 8 v
head_bytes Nil = big_bytes 1 2
head_bytes Cons = big_bytes 1 3

abbrev pub numbers_bytes : List ℕ → List ℕ
numbers_bytes ns = flat_map (big_bytes 4) ns

-- a record: its head, and the numbers of its arguments
abbrev pub record_bytes : Record → List ℕ
record_bytes r = head_bytes r.head ++ numbers_bytes r.arguments

abbrev pub magic : List ℕ
magic = codes "RECTERM1"

abbrev pub file_bytes : Contents → List ℕ
file_bytes c =
    magic
    ++ (big_bytes 4 (length c.symbols) ++ (flat_map symbol_bytes c.symbols
    ++ (big_bytes 4 (length c.records) ++ (flat_map record_bytes c.records
    ++ (big_bytes 4 (length c.roots) ++ numbers_bytes c.roots)))))

-- terms, and the symbols in the order in which they use them first
pub record Terms : Type 0 where
  pub symbols : List Named
  pub trees : List Tree

abbrev pub terms_in : Contents → Terms
terms_in c = record { symbols = c.symbols; trees = terms c }

-- the bytes are a right file, and it holds these terms
pub record IsFile (bytes : List ℕ) (ts : Terms) : Type 0 where
  pub contents : Contents
  pub right : IsRight contents
  pub bytes_are : bytes ≡ file_bytes contents
  pub terms_are : ts ≡ terms_in contents
