use Rattle.std.specs.Prelude.{ℕ, ◌<◌}
use Rattle.store_model.specs.declared.view.Place.TheVariants.{FreePlace}
use Rattle.store_model.specs.ByView.{IsLoaded}
use Rattle.row_sweep.specs.Gathered.{loads_of, Gathers, LoadsMore}
use Rattle.row_sweep.proofs.loading.load_places.Given as goal

abbrev pub invariant-loop-i : goal.invariant-loop-i
invariant-loop-i l = record {
  at : Gathers l.sweep l.seat.seat l.seat.number l.seat.seats;
  more : LoadsMore l.fn.seat.seat l.fn.seat.number l.fn.seat.seats l.seat.seat l.seat.number l.seat.seats;
  loaded : (i : ℕ) → i < l.i → IsLoaded (FreePlace i) (loads_of l.seat.seat);
}
