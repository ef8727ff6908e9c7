-- The items of terms that were read.
use Rattle.std.specs.Prelude.{◌≡◌, ℕ, List, ◌∷◌, map, replicate, slice_get, unwrap_or, Option, Some, None, Bool, true, All, ◌<◌}
use Rattle.std.specs.List.{flat_map}
use Rattle.read_faults.specs.declared.fail.ReadFail.{ReadFail}
use Rattle.read_faults.specs.declared.fail.ReadFail.TheVariants.{Refused, Memory}
use Rattle.term_model.specs.Tree.{Tree}
use Rattle.term_model.specs.Postorder.{tree_of}
use Rattle.term_model.specs.declared.Item.{Item}
use Rattle.term_model.specs.declared.Item.TheVariants.{App, Int, Nil, Cons}
use Rattle.symbol_pool.specs.Pool.{Named, named}
use Rattle.term_syntax.specs.State.{Kind, Symbol, Integer, Brackets, Part}
use Rattle.term_syntax.specs.declared.machine.Node.{Node}
use Rattle.read_faults.specs.Fault.{fault}
use Rattle.term_syntax.specs.Parts.{part_fault, pool_after}
use Rattle.symbol_pool.specs.Taking.{number_of, has}
use Rattle.term_syntax.specs.TakenUp.{value_or_zero}

-- the item of a part, of which a list has the empty list that ends it
abbrev pub item_of_kind : List Named → Kind → ℕ → Item
item_of_kind pool (Symbol n) count = App (record { 0 = number_of pool (named n count) }) count
item_of_kind pool (Integer v) count = Int (value_or_zero v)
item_of_kind pool Brackets count = Nil

abbrev pub item_in : List Named → Part → Item
item_in pool p = item_of_kind pool p.kind p.count

-- the part has no fault, and its symbol is taken up
pub record IsTakenUp (old : List Named) (p : Part) (item : Item) (new : List Named) : Type 0 where
  pub faultless : part_fault old p ≡ None
  pub pool_is : new ≡ pool_after old p.kind p.count
  pub item_is : item ≡ item_in new p

-- the fault is the part's
abbrev pub IsPartFault : List Named → Part → ReadFail → Type 0
IsPartFault pool p (Refused kind offset) = part_fault pool p ≡ Some (fault kind offset)
IsPartFault pool p Memory = Unit {0}

-- the symbol of a part is there
abbrev pub is_there : List Named → Kind → ℕ → Bool
is_there pool (Symbol n) count = has pool (named n count)
is_there pool (Integer v) count = true
is_there pool Brackets count = true

abbrev pub IsThere : List Named → Part → Type 0
IsThere pool p = is_there pool p.kind p.count ≡ true

-- the items of a node, and of nodes
abbrev pub node_items : List Item → Node → List Item
node_items items n = unwrap_or (slice_get items n.part) Nil ∷ replicate n.cells Cons

abbrev pub items_at : List Item → List Node → List Item
items_at items nodes = flat_map (node_items items) nodes

-- the trees of terms, where their nodes spell any
abbrev pub trees_at : List Item → List (List Node) → List (Option Tree)
trees_at items terms = map (λ ns. tree_of (items_at items ns)) terms

-- the numbers of the nodes are those of parts
abbrev pub AreWithin : ℕ → List Node → Type 0
AreWithin size nodes = All (λ n. n.part < size) nodes
