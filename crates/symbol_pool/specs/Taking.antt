-- How symbols are taken up: one that isn't there comes last.
use Rattle.std.specs.Prelude.{◌≡◌, ℕ, ◌+◌, List, [], ◌∷◌, ◌++◌, length, Bool, not, ◌&&◌, ◌==◌, nat_lt, if◌then◌else◌}
use Rattle.std.specs.Str.{bytes_eq}
use Rattle.symbol_pool.specs.Pool.{Named, most_symbols}

abbrev pub named_eq : Named → Named → Bool
named_eq a b = bytes_eq a.name b.name && a.arity == b.arity

-- the number of the symbol that is this, or how many there are
abbrev pub number_of : List Named → Named → ℕ
number_of [] s = 0
number_of (r ∷ pool) s = if named_eq r s then 0 else number_of pool s + 1

abbrev pub has : List Named → Named → Bool
has pool s = nat_lt (number_of pool s) (length pool)

-- a symbol that isn't there is taken up as the last
abbrev pub with_symbol : List Named → Named → List Named
with_symbol pool s = if has pool s then pool else pool ++ s ∷ []

-- one symbol after another
abbrev pub with_symbols : List Named → List Named → List Named
with_symbols pool [] = pool
with_symbols pool (s ∷ ss) = with_symbols (with_symbol pool s) ss

abbrev pub is_full_for : List Named → Named → Bool
is_full_for pool s = not (has pool s) && length pool == most_symbols

-- symbols only come last
abbrev pub GrowsPool : List Named → List Named → Type 0
GrowsPool old new = (more : List Named) × (new ≡ old ++ more)
