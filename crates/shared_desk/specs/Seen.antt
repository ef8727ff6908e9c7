-- What a desk sees of a pass: its own list, the rows that it protects, and what its entries told.
use Rattle.std.specs.Prelude.{ℕ, Bool, ◌&&◌, Option, List, [], map}
use Rattle.term_model.specs.declared.Row.{Row}
use Rattle.term_model.specs.Tree.{Tree}
use Rattle.store_model.specs.declared.view.View.{View}
use Rattle.store_model.specs.Machine.{widest, protected_in}
use Rattle.store_model.specs.Invariant.{listed}
use Rattle.store_model.specs.Told.{Told, told}
use Rattle.node_rows.specs.Crowding.{ends_in_collect}
use Rattle.shared_desk.specs.Held.{held_in}
use Rattle.shared_desk.specs.Pass.{PassView, WhichStore, WhichPass}

abbrev pub row_of : ℕ → Row
row_of r = record { 0 = r }

-- rows by their numbers
abbrev pub rows_of : List ℕ → List Row
rows_of rs = map row_of rs

-- a pass in shared access, alone, or out; with this base, own list, and protected rows, whose
-- entries told so much, and with these trees kept by its last Collect; its entries themselves are
-- left out
abbrev pub telling : WhichStore → WhichPass → (shared alone fresh : Bool) → ℕ → (ℕ → Option Tree)
    → List ℕ → Told → List Tree → PassView
telling store seat shared alone fresh base held roots told crowd =
    record {
      shared = shared;
      alone = alone;
      fresh = fresh;
      base = base;
      entries = [];
      greatest = 0;
      held = listed store.sizes.rows held;
      roots = rows_of roots;
      noted = rows_of told.noted;
      built = told.built;
      rooted = told.rooted;
      crowd = crowd;
      hand = told.hand;
      load = told.load;
      sweeps = told.sweeps;
      rows = store.sizes.rows;
      arity = widest store.sizes;
      depth = store.sizes.depth;
      store = store;
      seat = seat;
    }

-- it is in the access of its last collection, and has noted nothing since
abbrev pub is_swept : View → Bool
is_swept v = v.fresh && ends_in_collect v.entries

-- and with the entries of this view, and the greatest number that it has seen
abbrev pub noting : PassView → View → PassView
noting x v = record x { entries = v.entries; greatest = v.seen }

-- the pass with this view, whose last Collect kept these trees
abbrev pub seen : WhichStore → WhichPass → (shared alone : Bool) → List Tree → View → PassView
seen store seat shared alone crowd v =
    noting (telling store seat shared alone (is_swept v) v.base (held_in v) (protected_in v)
    (told v.entries) crowd) v
