use Rattle.std.specs.Prelude.{◌≡◌, ℕ, ◌<◌, ◌≤◌, false}
use Rattle.store_model.specs.declared.view.Place.{Place}
use Rattle.store_model.specs.declared.view.Place.TheVariants.{FreePlace}
use Rattle.node_rows.specs.Collecting.{HasSeen}
use Rattle.row_sweep.specs.Gathered.{sizes_of}
use Rattle.row_sweep.specs.Compared.{unmarked_before}
use Rattle.row_sweep.specs.Stored.{Stores, StoresMore, ArePlaced, seen_of, is_place}
use Rattle.row_sweep.proofs.storing.store_places.Given as goal

abbrev pub invariant-loop-turn : goal.invariant-loop-turn
invariant-loop-turn l = record {
  at : Stores l.sweep l.seat.seat l.seat.number l.seat.seats;
  more : StoresMore l.fn.seat.seat l.fn.seat.number l.fn.seat.seats l.seat.seat l.seat.number l.seat.seats;
  placed : ArePlaced (λ i. seen_of l.seat.seat (FreePlace i)) l.marks (sizes_of l.sweep) l.order l.turn l.count;
  has : (i : ℕ) → i < l.count → HasSeen l.seat.seat.me.0.store (FreePlace i);
  few : l.count ≤ l.turn;
  count : l.count ≡ unmarked_before l.marks (sizes_of l.sweep) l.order l.turn;
  later : (i : ℕ) → l.count ≤ i → seen_of l.seat.seat (FreePlace i) ≡ seen_of l.fn.seat.seat (FreePlace i);
  others : (p : Place) → is_place p ≡ false → seen_of l.seat.seat p ≡ seen_of l.fn.seat.seat p;
}
