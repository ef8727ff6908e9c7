use Rattle.std.specs.Prelude.{ℕ, ◌<◌}
use Rattle.row_sweep.specs.Loaded.{HasRow}
use Rattle.row_sweep.specs.Gathered.{loads_of, Gathers, LoadsMore, sizes_of}
use Rattle.row_sweep.proofs.loading.load_rows.Given as goal

abbrev pub invariant-loop-row : goal.invariant-loop-row
invariant-loop-row l = record {
  at : Gathers l.sweep l.seat.seat l.seat.number l.seat.seats;
  more : LoadsMore l.fn.seat.seat l.fn.seat.number l.fn.seat.seats l.seat.seat l.seat.number l.seat.seats;
  loaded : (r : ℕ) → r < l.row → HasRow (sizes_of l.sweep) (loads_of l.seat.seat) r;
}
