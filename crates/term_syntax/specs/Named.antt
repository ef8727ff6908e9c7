-- Names with their numbers of arguments, as symbols.
use Rattle.std.specs.Prelude.{◌≡◌, ◌||◌, ℕ, List, length, true, false, nat_lt}
use Rattle.read_faults.specs.declared.fail.ReadFail.{ReadFail}
use Rattle.read_faults.specs.declared.fail.ReadFail.TheVariants.{Refused, Memory}
use Rattle.term_model.specs.declared.Symbol.{Symbol}
use Rattle.symbol_pool.specs.Pool.{Named, named}
use Rattle.symbol_pool.specs.Taking.{number_of, with_symbol, is_full_for}

pub record IsSymbolTaken (old : List Named) (name : List ℕ) (count : ℕ)
    (symbol : Symbol) (new : List Named) : Type 0 where
  pub short : nat_lt 255 (length name) ≡ false
  pub room : is_full_for old (named name count) ≡ false
  pub pool_is : new ≡ with_symbol old (named name count)
  pub symbol_is : symbol ≡ record { 0 = number_of new (named name count) }

abbrev pub IsSymbolRefused : List Named → List ℕ → ℕ → ℕ → ReadFail → Type 0
IsSymbolRefused pool name count place (Refused kind offset) =
    ((nat_lt 255 (length name) || is_full_for pool (named name count)) ≡ true)
    × (kind ≡ 13) × (offset ≡ place)
IsSymbolRefused pool name count place Memory = Unit {0}
