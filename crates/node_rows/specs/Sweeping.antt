-- Which steps are a collection's.
use Rattle.std.specs.Prelude.{ℕ}
use Rattle.store_model.specs.declared.view.Sizes.{Sizes}
use Rattle.store_model.specs.declared.view.View.{View}
use Rattle.store_model.specs.Machine.{Step, LoadAny, StoreAny, StoreClaim}
use Rattle.node_rows.specs.Collecting.{MayEndBy}

-- A load or a store of a collection of seat i; or its last store, where the own view has seen the
-- words that it ends by.
abbrev pub IsSweep : Sizes → ℕ → View → Step → Type 0
IsSweep z i v (LoadAny p) = Unit {0}
IsSweep z i v (StoreAny p n) = Unit {0}
IsSweep z i v StoreClaim = MayEndBy z i v
IsSweep z i v x = ⊥
