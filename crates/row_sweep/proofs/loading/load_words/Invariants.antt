use Rattle.std.specs.Prelude.{ℕ, ◌<◌}
use Rattle.store_model.specs.declared.view.Place.TheVariants.{RowWord}
use Rattle.store_model.specs.ByView.{IsLoaded}
use Rattle.row_sweep.specs.Gathered.{loads_of, Gathers, LoadsMore}
use Rattle.row_sweep.proofs.loading.load_words.Given as goal

abbrev pub invariant-loop-k : goal.invariant-loop-k
invariant-loop-k l = record {
  at : Gathers l.sweep l.seat.seat l.seat.number l.seat.seats;
  more : LoadsMore l.fn.seat.seat l.fn.seat.number l.fn.seat.seats l.seat.seat l.seat.number l.seat.seats;
  loaded : (k : ℕ) → k < l.k → IsLoaded (RowWord l.row k) (loads_of l.seat.seat);
}
