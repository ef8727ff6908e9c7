-- The symbols of a pool, in the order of their numbers.
use Rattle.std.specs.Prelude.{◌≡◌, ℕ, ◌≤◌, List, length, Option, Some, slice_get}
use Rattle.std.specs.Option.{option_map}
use Rattle.term_model.specs.declared.Symbol.{Symbol}

-- what a symbol is: a name and a number of arguments
pub record Named : Type 0 where
  pub name : List ℕ
  pub arity : ℕ

abbrev pub named : List ℕ → ℕ → Named
named name arity = record { name = name; arity = arity }

-- how many symbols a pool may hold
abbrev pub most_symbols : ℕ
most_symbols = 65535

-- the symbol is this name with this number of arguments
abbrev pub Holds : List Named → Symbol → Named → Type 0
Holds pool symbol s = slice_get pool symbol.0 ≡ Some s

-- no symbol is this
abbrev pub Lacks : List Named → Named → Type 0
Lacks pool s = (i : ℕ) → slice_get pool i ≡ Some s → ⊥

-- one number is this
abbrev pub Has : List Named → Named → Type 0
Has pool s = (i : ℕ) × (slice_get pool i ≡ Some s)

-- different numbers are different symbols, and there are no more than may be
pub record IsPool (pool : List Named) : Type 0 where
  pub once : (i j : ℕ) (s : Named) → slice_get pool i ≡ Some s → slice_get pool j ≡ Some s → i ≡ j
  pub room : length pool ≤ most_symbols

abbrev pub name_at : List Named → Symbol → Option (List ℕ)
name_at pool symbol = option_map (λ s. s.name) (slice_get pool symbol.0)

abbrev pub arity_at : List Named → Symbol → Option ℕ
arity_at pool symbol = option_map (λ s. s.arity) (slice_get pool symbol.0)

-- there is no symbol for this, and no room for one more
abbrev pub IsFullFor : List Named → Named → Type 0
IsFullFor pool s = Lacks pool s × (length pool ≡ most_symbols)
