-- The symbols that specifications declare together.
use Rattle.std.specs.Prelude.{ℕ, List, [], ◌∷◌, ◌++◌, length, map, max, Bool, not, ◌&&◌, nat_le, nat_lt, Option, Some, None, option_and_then, if◌then◌else◌}
use Rattle.std.specs.List.{list_any}
use Rattle.symbol_pool.specs.Pool.{Named, named, most_symbols}
use Rattle.rec_includes.specs.Names.{text_of}
use Rattle.rec_includes.specs.Material.{Declared}
use Rattle.rec_offences.specs.Scope.{Entry}
use Rattle.rec_check.specs.Term.{same_symbol, most_arguments}

-- declared symbols, each by its name and its number of arguments
abbrev pub named_in : List ℕ → List Declared → List Named
named_in text ds = map (λ d. named (text_of text d.name) (length d.arguments)) ds

-- what is declared, by its name and its number of arguments
abbrev pub named_by : List ℕ → Entry → Named
named_by text e = named (text_of text e.declared.name) (length e.declared.arguments)

-- whether a symbol may be added to others: it is none of them, it doesn't have too many arguments, and
-- there aren't too many symbols
abbrev pub may_be_added : List Named → Named → Bool
may_be_added symbols s =
    nat_le s.arity most_arguments && (not (list_any (same_symbol s) symbols) && nat_lt (length symbols) most_symbols)

abbrev pub with_symbol : List Named → Named → Option (List Named)
with_symbol symbols s = if may_be_added symbols s then Some (symbols ++ s ∷ []) else None

-- symbols with others added one after another; nothing where one may not be added
abbrev pub with_symbols : List Named → List Named → Option (List Named)
with_symbols symbols [] = Some symbols
with_symbols symbols (s ∷ ss) = option_and_then (λ more. with_symbols more ss) (with_symbol symbols s)

-- the greatest number of arguments of a symbol, 0 where there is none
abbrev pub widest_of : List Named → ℕ
widest_of [] = 0
widest_of (s ∷ ss) = max s.arity (widest_of ss)
