-- The tree that the nodes of a term spell.
use Rattle.std.specs.Prelude.{ℕ, zero, suc, List, [], ◌∷◌, ◌++◌, Bool, ◌&&◌, ◌==◌, nat_le, Option, Some, None, option_and_then, position, if◌then◌else◌}
use Rattle.std.specs.Option.{option_map}
use Rattle.std.specs.Str.{bytes_eq}
use Rattle.term_model.specs.Tree.{Tree}
use Rattle.term_model.specs.Postorder.{tree_of}
use Rattle.term_model.specs.declared.Item.{Item}
use Rattle.term_model.specs.declared.Item.TheVariants.{Var, App}
use Rattle.symbol_pool.specs.Pool.{Named, named}
use Rattle.rec_reader.specs.declared.syntax_tree.Node.{Node}
use Rattle.rec_includes.specs.Names.{text_of}

-- what each of a list spells, in order; nothing where one of them spells nothing
abbrev pub all_of : {X Y : Type 0} → (X → Option Y) → List X → Option (List Y)
all_of f [] = Some []
all_of f (x ∷ xs) = option_and_then (λ y. option_map (λ ys. y ∷ ys) (all_of f xs)) (f x)

-- what is there already, and what the rest spells
abbrev pub after : {Y : Type 0} → List Y → Option (List Y) → Option (List Y)
after ys rest = option_map (λ more. ys ++ more) rest

-- whether two symbols have the same name and the same number of arguments
abbrev pub same_symbol : Named → Named → Bool
same_symbol s t = bytes_eq s.name t.name && s.arity == t.arity

-- the most arguments that a symbol has
abbrev pub most_arguments : ℕ
most_arguments = 16

-- the symbol with this name and this many arguments, by its number
abbrev pub symbol_item : List Named → List ℕ → ℕ → Option Item
symbol_item symbols name count =
    if nat_le count most_arguments
    then option_map (λ f. App (record { 0 = f }) count) (position (same_symbol (named name count)) symbols)
    else None

-- a variable, by its number, has no arguments
abbrev pub variable_item : ℕ → ℕ → Option Item
variable_item variable zero = Some (Var variable)
variable_item variable (suc count) = None

-- the names that a term is read with: those of the variables, and the symbols
pub record Scope : Type 0 where
  pub text : List ℕ
  pub symbols : List Named
  pub variables : List (List ℕ)

abbrev pub item_by : List Named → List ℕ → ℕ → Option ℕ → Option Item
item_by symbols name count None = symbol_item symbols name count
item_by symbols name count (Some variable) = variable_item variable count

-- a head stands for the variable of its name, where there is one, and else for the symbol of its name
abbrev pub item_in : Scope → Node → Option Item
item_in scope node =
    let name = text_of scope.text node.head in
    item_by scope.symbols name node.count (position (bytes_eq name) scope.variables)

-- the tree whose nodes in postorder these are, each head standing for what it stands for
abbrev pub tree_in : Scope → List Node → Option Tree
tree_in scope nodes = option_and_then (λ items. tree_of items) (all_of (λ n. item_in scope n) nodes)
