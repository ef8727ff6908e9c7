use Rattle.row_sweep.specs.Gathered.{sizes_of, words_of, HasGathered, LoadsAgain}
use Rattle.row_sweep.specs.Marked.{MarksTo}
use Rattle.row_sweep.proofs.marking.mark_all.Given as goal

abbrev pub invariant-loop-j : goal.invariant-loop-j
invariant-loop-j l = record {
  at : HasGathered l.sweep l.seat.seat l.seat.number l.seat.seats;
  again : LoadsAgain l.sweep l.fn.seat.seat l.fn.seat.number l.fn.seat.seats l.seat.seat l.seat.number l.seat.seats;
  marks : MarksTo (words_of l.fn.seat.seat) (sizes_of l.sweep).rows l.j 0 l.marks;
}
