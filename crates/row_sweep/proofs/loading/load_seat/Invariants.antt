use Rattle.std.specs.Prelude.{◌≡◌, ℕ, ◌<◌, Some}
use Rattle.store_model.specs.declared.view.Place.TheVariants.{Root, RootCount}
use Rattle.store_model.specs.ByView.{IsLoaded}
use Rattle.store_model.specs.Steps.{value_at}
use Rattle.row_sweep.specs.Gathered.{loads_of, Gathers, LoadsMore}
use Rattle.row_sweep.proofs.loading.load_seat.Given as goal

abbrev pub invariant-loop-k : goal.invariant-loop-k
invariant-loop-k l = record {
  at : Gathers l.sweep l.seat.seat l.seat.number l.seat.seats;
  more : LoadsMore l.fn.seat.seat l.fn.seat.number l.fn.seat.seats l.seat.seat l.seat.number l.seat.seats;
  count : value_at (RootCount l.j) (loads_of l.seat.seat) ≡ Some l.count;
  loaded : (k : ℕ) → k < l.k → IsLoaded (Root l.j k) (loads_of l.seat.seat);
}
