use Rattle.std.specs.Prelude.{ℕ, ◌<◌}
use Rattle.store_model.specs.declared.view.Place.TheVariants.{Bucket}
use Rattle.store_model.specs.ByView.{IsLoaded}
use Rattle.row_sweep.specs.Gathered.{loads_of, Gathers, LoadsMore}
use Rattle.row_sweep.proofs.loading.load_buckets.Given as goal

abbrev pub invariant-loop-b : goal.invariant-loop-b
invariant-loop-b l = record {
  at : Gathers l.sweep l.seat.seat l.seat.number l.seat.seats;
  more : LoadsMore l.fn.seat.seat l.fn.seat.number l.fn.seat.seats l.seat.seat l.seat.number l.seat.seats;
  loaded : (b : ℕ) → b < l.b → IsLoaded (Bucket b) (loads_of l.seat.seat);
}
