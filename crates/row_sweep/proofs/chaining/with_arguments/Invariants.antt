use Rattle.std.specs.Prelude.{◌≡◌}
use Rattle.hash_buckets.specs.Hash.{mixed_all}
use Rattle.row_sweep.specs.Gathered.{words_of, HasGathered, LoadsAgain}
use Rattle.row_sweep.specs.Chained.{numbers_of}
use Rattle.row_sweep.proofs.chaining.with_arguments.Given as goal

abbrev pub invariant-loop-j : goal.invariant-loop-j
invariant-loop-j l = record {
  at : HasGathered l.sweep l.seat.seat l.seat.number l.seat.seats;
  again : LoadsAgain l.sweep l.fn.seat.seat l.fn.seat.number l.fn.seat.seats l.seat.seat l.seat.number l.seat.seats;
  hash : l.hash ≡ mixed_all l.first (numbers_of (words_of l.fn.seat.seat) l.row l.j);
}
