-- A pool as it is kept: different names, and for each symbol the number of its name with its number
-- of arguments.
use Rattle.std.specs.Prelude.{ℕ, ◌<◌, ◌≤◌, List, length, map, nat_eq, Bool, ◌&&◌, All}
use Rattle.std.specs.List.{IsDistinct}
use Rattle.std.specs.Global.{Vec}
use Rattle.symbol_pool.specs.Pool.{Named, named, most_symbols}
use Rattle.symbol_pool.specs.Names.{name_of, same_name}
use Rattle.symbol_pool.specs.declared.symbols.Symbols.TheInside.{Inside}

abbrev pub symbol_of : List (Vec ℕ) → ℕ × ℕ → Named
symbol_of names p = named (name_of names p.0) p.1

abbrev pub symbols_of : List (Vec ℕ) → List (ℕ × ℕ) → List Named
symbols_of names pairs = map (symbol_of names) pairs

abbrev pub same_pair : ℕ × ℕ → ℕ × ℕ → Bool
same_pair a b = nat_eq a.0 b.0 && nat_eq a.1 b.1

pub record AreKept (names : List (Vec ℕ)) (pairs : List (ℕ × ℕ)) : Type 0 where
  pub names_differ : IsDistinct same_name names
  pub pairs_differ : IsDistinct same_pair pairs
  pub named : All (λ p. p.0 < length names) pairs
  pub room : length pairs ≤ most_symbols

abbrev pub shown : Inside → List Named
shown s = symbols_of s.names.keys s.pairs.keys

abbrev pub IsKept : Inside → Type 0
IsKept s = AreKept s.names.keys s.pairs.keys
