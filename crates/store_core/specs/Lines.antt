-- The words that a collection loads, side by side.
use Rattle.std.specs.Prelude.{◌≡◌, ℕ, ◌<◌, Some, List}
use Rattle.store_model.specs.declared.view.Place.{Place}
use Rattle.store_model.specs.declared.view.Place.TheVariants.{FreePlace, Bucket, RowWord, Birth, Next, RootCount, Root}
use Rattle.store_model.specs.Steps.{value_at}
use Rattle.store_core.specs.declared.machine.whole.Line.{Line}
use Rattle.store_core.specs.declared.machine.whole.Line.TheVariants.{FreePlaces, Buckets, Births, Nexts, RootCounts, Words, Roots}

-- the k-th place on a line
abbrev pub place_on : Line → ℕ → Place
place_on FreePlaces k = FreePlace k
place_on Buckets k = Bucket k
place_on Births k = Birth k
place_on Nexts k = Next k
place_on RootCounts k = RootCount k
place_on (Words r) k = RowWord r k
place_on (Roots j) k = Root j k

-- the present word of a place was loaded from it first
abbrev pub IsLoadedRight : (Place → ℕ) → List (Place × ℕ) → Place → Type 0
IsLoadedRight w ls p = value_at p ls ≡ Some (w p)

-- so were the first n of a line
abbrev pub LoadsLine : (Place → ℕ) → List (Place × ℕ) → Line → ℕ → Type 0
LoadsLine w ls line n = (k : ℕ) → k < n → IsLoadedRight w ls (place_on line k)
