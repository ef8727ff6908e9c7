-- A store that runs: what contracts see of its fields, and what always holds of them.
use Rattle.std.specs.Prelude.{◌≡◌, length}
use Rattle.store_model.specs.StoreHolds.{StoreHolds}
use Rattle.store_core.specs.StoreValue.{StoreValue, state_of}
use Rattle.store_core.specs.declared.state.StoreState.TheInside.{Inside}

abbrev pub value_of : Inside → StoreValue
value_of s = record {
  sizes = s.table.sizes;
  lock = s.lock;
  words = s.table.words.items;
  views = s.views.items;
}

-- each seat has its view, and the facts hold that every step keeps
pub record IsHeld (s : Inside) : Type 0 where
  pub views : length s.views.items ≡ s.table.sizes.seats
  pub holds : StoreHolds s.table.sizes (state_of (value_of s))
