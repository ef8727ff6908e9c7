use Rattle.std.specs.Prelude.{ℕ, ◌<◌}
use Rattle.row_sweep.specs.Loaded.{HasRoots}
use Rattle.row_sweep.specs.Gathered.{loads_of, Gathers, LoadsMore}
use Rattle.row_sweep.proofs.loading.load_seats.Given as goal

abbrev pub invariant-loop-j : goal.invariant-loop-j
invariant-loop-j l = record {
  at : Gathers l.sweep l.seat.seat l.seat.number l.seat.seats;
  more : LoadsMore l.fn.seat.seat l.fn.seat.number l.fn.seat.seats l.seat.seat l.seat.number l.seat.seats;
  loaded : (j : ℕ) → j < l.j → HasRoots (loads_of l.seat.seat) j;
}
