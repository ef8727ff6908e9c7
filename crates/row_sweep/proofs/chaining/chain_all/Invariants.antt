use Rattle.std.specs.Prelude.{◌≡◌, length}
use Rattle.row_sweep.specs.Gathered.{words_of, HasGathered, LoadsAgain}
use Rattle.row_sweep.specs.Chained.{ChainsTo}
use Rattle.row_sweep.proofs.chaining.chain_all.Given as goal

abbrev pub invariant-loop-row : goal.invariant-loop-row
invariant-loop-row l = record {
  at : HasGathered l.sweep l.seat.seat l.seat.number l.seat.seats;
  again : LoadsAgain l.sweep l.fn.seat.seat l.fn.seat.number l.fn.seat.seats l.seat.seat l.seat.number l.seat.seats;
  chains : ChainsTo (words_of l.fn.seat.seat) l.marks l.in_use l.row l.heads l.nexts;
  nexts : length l.nexts ≡ length l.fn.nexts;
  heads : length l.heads ≡ length l.fn.heads;
}
