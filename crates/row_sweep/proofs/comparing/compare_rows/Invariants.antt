use Rattle.std.specs.Prelude.{◌≡◌, ◌≤◌, length}
use Rattle.row_sweep.specs.Gathered.{sizes_of, words_of, HasGathered, LoadsAgain}
use Rattle.row_sweep.specs.Compared.{unmarked_before, Notes}
use Rattle.row_sweep.proofs.comparing.compare_rows.Given as goal

abbrev pub invariant-loop-turn : goal.invariant-loop-turn
invariant-loop-turn l = record {
  at : HasGathered l.sweep l.seat.seat l.seat.number l.seat.seats;
  again : LoadsAgain l.sweep l.fn.seat.seat l.fn.seat.number l.fn.seat.seats l.seat.seat l.seat.number l.seat.seats;
  notes : Notes (words_of l.fn.seat.seat) l.sweep.count l.marks l.fn.cells l.cells (sizes_of l.sweep) l.order l.turn;
  free : l.free ≡ unmarked_before l.marks (sizes_of l.sweep) l.order l.turn;
  few : l.free ≤ l.turn;
  size : length l.cells ≡ length l.fn.cells;
}
