-- Terms that are shared item by item. On a stack stand the records of the trees that no later item
-- has taken: they are the roots of what was shared so far.
use Rattle.std.specs.Prelude.{◌≡◌, ℕ, ◌<◌, List, [], ◌∷◌, ◌++◌, length, reverse, slice_get, Some, Bool, true, false, nat_lt, nat_le, if◌then◌else◌}
use Rattle.std.specs.List.{list_all, flat_map}
use Rattle.term_model.specs.declared.Item.{Item}
use Rattle.term_model.specs.declared.Item.TheVariants.{Var, App, Int, Nil, Cons}
use Rattle.term_model.specs.declared.Head.{Head}
use Rattle.term_model.specs.declared.Head.TheVariants as head
use Rattle.term_model.specs.Tree.{Tree, subtrees, distinct}
use Rattle.term_model.specs.Postorder.{push_item}
use Rattle.symbol_pool.specs.Pool.{Named, IsPool}
use Rattle.symbol_pool.specs.Taking.{has, with_symbol}
use Rattle.tree_text.specs.Canonical.{is_writable_symbol}
use Rattle.term_file.specs.Contents.{Record, Contents, terms}
use Rattle.term_file.specs.InOrder.{came_after, walk, uses}
use Rattle.term_file.specs.Right.{all_after, is_right_symbol, is_right_record, is_new_record}
use Rattle.term_file.specs.NamedTree.{AreSame}

-- how many different subtrees trees have
abbrev pub different : List Tree → ℕ
different ts = distinct (flat_map subtrees ts)

-- right contents, of any number of records and roots
pub record IsGrown (c : Contents) : Type 0 where
  pub symbols_right : all_after is_right_symbol [] c.symbols ≡ true
  pub records_right : all_after (is_right_record c.symbols) [] c.records ≡ true
  pub uses_in_order : came_after 0 (uses c.records) ≡ Some (length c.symbols)
  pub roots_right : list_all (λ r. nat_lt r (length c.records)) c.roots ≡ true
  pub visits_in_order : came_after 0 (walk c) ≡ Some (length c.records)

-- each symbol is one of the others
pub record IsPart (symbols names : List Named) : Type 0 where
  pub among : (i : ℕ) (s : Named) → slice_get symbols i ≡ Some s → has names s ≡ true

-- the contents are these trees over these names
pub record Shares (names : List Named) (ts : List Tree) (c : Contents) : Type 0 where
  pub grown : IsGrown c
  pub pool : IsPool c.symbols
  pub part : IsPart c.symbols names
  pub same : AreSame names ts c.symbols (terms c)

-- an item of a term that can be written
abbrev pub is_writable_item : List Named → Item → Bool
is_writable_item names (Var x) = false
is_writable_item names (App f n) = is_writable_symbol (slice_get names f.0) n
is_writable_item names (Int v) = nat_le v 18446744073709551615
is_writable_item names Nil = true
is_writable_item names Cons = true

-- an item takes the last of some trees, and puts a tree behind the others
abbrev pub Pushes : Item → List Tree → List Tree → Type 0
Pushes i ts us = push_item i (reverse ts) ≡ Some (reverse us)

-- the contents are trees on which the item can come
pub record ComesOn (names : List Named) (i : Item) (c : Contents) : Type 0 where
  pub before : List Tree
  pub after : List Tree
  pub shares : Shares names before c
  pub pushes : Pushes i before after

-- whatever trees the contents are, the new contents are those after the item
abbrev pub Takes : List Named → Item → Contents → Contents → Type 0
Takes names i old new = (ts us : List Tree) → Shares names ts old → Pushes i ts us
    → Shares names us new

-- the trees after the item have more different subtrees
abbrev pub TakesTooMany : List Named → Item → Contents → ℕ → Type 0
TakesTooMany names i old rows = (ts us : List Tree) → Shares names ts old → Pushes i ts us
    → rows < different us

-- the same of a whole tree
pub record HasTrees (names : List Named) (c : Contents) : Type 0 where
  pub trees : List Tree
  pub shares : Shares names trees c

abbrev pub TakesTree : List Named → Tree → Contents → Contents → Type 0
TakesTree names t old new = (ts : List Tree) → Shares names ts old → Shares names (ts ++ t ∷ []) new

abbrev pub TreeIsTooMany : List Named → Tree → Contents → ℕ → Type 0
TreeIsTooMany names t old rows =
    (ts : List Tree) → Shares names ts old → rows < different (ts ++ t ∷ [])

-- a name with its number among the symbols, which it becomes where it is none of them
pub record Numbers (names : List Named) (f : ℕ) (old new : List Named) (n : ℕ) : Type 0 where
  pub symbol : Named
  pub named : slice_get names f ≡ Some symbol
  pub held : slice_get new n ≡ Some symbol
  pub grown : new ≡ with_symbol old symbol
  pub pool : IsPool new

-- the head of an item with its symbol so numbered; there is none of a variable
abbrev pub NumbersHead : List Named → Item → List Named → List Named → Head → Type 0
NumbersHead names (Var x) old new g = ⊥
NumbersHead names (App f k) old new g =
    (n : ℕ) × (g ≡ head.App (record { 0 = n })) × Numbers names f.0 old new n
NumbersHead names (Int v) old new g = (new ≡ old) × (g ≡ head.Int v)
NumbersHead names Nil old new g = (new ≡ old) × (g ≡ head.Nil)
NumbersHead names Cons old new g = (new ≡ old) × (g ≡ head.Cons)

-- a record with its number among the records, of which it becomes the last where it is none of them
pub record IsPlaced (old new : List Record) (r : Record) (n : ℕ) : Type 0 where
  pub at : slice_get new n ≡ Some r
  pub grown : new ≡ (if is_new_record old r then old ++ r ∷ [] else old)

-- a list is cut into a front and so many numbers behind it
pub record IsCutInto (old front taken : List ℕ) (count : ℕ) : Type 0 where
  pub whole : old ≡ front ++ taken
  pub size : length taken ≡ count
