-- Symbols that are known to be there.
use Rattle.std.specs.Prelude.{◌≡◌, ◌⊎◌, ℕ, zero, suc, ◌+◌, ◌-◌, ◌*◌, ◌/◌, ◌%◌, ◌<◌, ◌≤◌, List, [], ◌∷◌, ◌++◌, length, take, drop, nat_le, if◌then◌else◌, All}
use Rattle.symbol_pool.specs.Pool.{Named, named, Holds, IsPool}
use Rattle.term_syntax.specs.declared.lately.Noted.{Noted}

-- so many digits of a number to the base 256, the lowest first
abbrev pub digits : ℕ → ℕ → List ℕ
digits zero k = []
digits (suc n) k = k % 256 ∷ digits n (k / 256)

-- the name of so many bytes, at most eight, that a number tells by its front and its back
abbrev pub name_of : ℕ → ℕ → List ℕ
name_of size k =
    if nat_le 4 size then take 4 (digits 8 k) ++ drop (12 - size) (digits 8 k)
    else (if nat_le 2 size then take 2 (digits 4 k) ++ drop (6 - size) (digits 4 k)
    else digits size k)

-- the symbol is there; a name that is short is what the number tells, with this number of arguments
pub record IsNoted (pool : List Named) (n : Noted) : Type 0 where
  pub size : ℕ
  pub count : ℕ
  pub sizes_are : n.sizes ≡ size + count * 256
  pub fits : size ≤ 255
  pub there : n.symbol < length pool
  pub held : size ≤ 8 → Holds pool (record { 0 = n.symbol }) (named (name_of size n.number) count)
  pub is_pool : IsPool pool

-- at each place stands no name, or one with its symbol
abbrev pub AreKnown : List Noted → List Named → Type 0
AreKnown places pool = All (λ n. (n.sizes ≡ 4294967295) ⊎ IsNoted pool n) places
