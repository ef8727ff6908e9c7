-- What names mean within a specification, and what its terms are made of.
use Rattle.std.specs.Prelude.{ℕ, ◌-◌, List, [], ◌∷◌, ◌++◌, Bool, true, false, Option, find, length, map, take, drop, slice_get}
use Rattle.std.specs.Option.{option_map, option_map_or}
use Rattle.rec_reader.specs.declared.token.Name.{Name}
use Rattle.rec_reader.specs.declared.syntax_tree.Node.{Node}
use Rattle.rec_reader.specs.declared.syntax_tree.Specification.{Specification}
use Rattle.rec_includes.specs.Names.{same_text}
use Rattle.rec_includes.specs.Material.{Declared, declared, Variable, symbols_by, variables_by}

-- what a name is declared as: a symbol, or a variable, which has no arguments
pub record Entry : Type 0 where
  pub declared : Declared
  pub is_variable : Bool

abbrev pub symbol_entry : Declared → Entry
symbol_entry d = record { declared = d; is_variable = false }

abbrev pub variable_entry : Variable → Entry
variable_entry v = record { declared = declared v.name [] v.sort; is_variable = true }

-- what a specification declares, in order
abbrev pub own_entries : Specification → List Entry
own_entries s = map symbol_entry (symbols_by s) ++ map variable_entry (variables_by s)

abbrev pub names_of : List Entry → List Name
names_of entries = map (λ e. e.declared.name) entries

-- what a name is first declared as
abbrev pub look_up : List ℕ → List Entry → Name → Option Entry
look_up bytes entries n = find (λ e. same_text bytes n e.declared.name) entries

-- the name is that of a variable
abbrev pub is_variable : List ℕ → List Entry → Name → Bool
is_variable bytes entries n = option_map_or (λ e. e.is_variable) (look_up bytes entries n) false

-- the head of a whole term, which is its first token: that of its last node
abbrev pub root : List Node → Option Name
root nodes = option_map (λ n. n.head) (slice_get nodes (length nodes - 1))

abbrev pub heads : List Node → List Name
heads nodes = map (λ n. n.head) nodes

-- a node, with the heads of its arguments
pub record Visit : Type 0 where
  pub node : Node
  pub arguments : List Name

abbrev pub visit : Node → List Name → Visit
visit node arguments = record { node = node; arguments = arguments }

-- the nodes of a term with the heads of their arguments; on the stack are the heads of the terms that are
-- no argument yet, the newest last
abbrev pub visits : List Name → List Node → List Visit
visits stack [] = []
visits stack (n ∷ ns) =
    visit n (drop (length stack - n.count) stack)
    ∷ visits (take (length stack - n.count) stack ++ n.head ∷ []) ns
