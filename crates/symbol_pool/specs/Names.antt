-- The different names that a pool keeps.
use Rattle.std.specs.Prelude.{◌≡◌, ℕ, List, [], ◌++◌, slice_get, nat_eq, Bool, Some}
use Rattle.std.specs.Option.{option_map, option_map_or}
use Rattle.std.specs.Cmp.Lexicographic.{pointwise}
use Rattle.std.specs.Global.{Vec}

-- the name with this number, or no bytes
abbrev pub name_of : List (Vec ℕ) → ℕ → List ℕ
name_of names i = option_map_or (λ n. n.items) (slice_get names i) []

abbrev pub same_name : Vec ℕ → Vec ℕ → Bool
same_name a b = pointwise nat_eq a.items b.items

-- this name has this number
abbrev pub IsNameAt : List (Vec ℕ) → ℕ → List ℕ → Type 0
IsNameAt names i name = option_map (λ n. n.items) (slice_get names i) ≡ Some name

-- names only come last
abbrev pub GrowsNames : List (Vec ℕ) → List (Vec ℕ) → Type 0
GrowsNames old new = (more : List (Vec ℕ)) × (new ≡ old ++ more)
