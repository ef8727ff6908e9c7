-- The words of the machine that runs.
use Rattle.std.specs.Prelude.{◌≡◌, ℕ, true}
use Rattle.store_model.specs.declared.view.Place.{Place}
use Rattle.store_model.specs.declared.view.Sizes.{Sizes}
use Rattle.store_model.specs.Shown.{in_table, index_of}

-- the table has the place, and this is its word
pub record IsPlaceOf (z : Sizes) (p : Place) (k : ℕ) : Type 0 where
  pub there : in_table z p ≡ true
  pub word : k ≡ index_of z p
