use Rattle.std.proofs.Common.{arith}
use Rattle.row_sweep.specs.Gathered.{words_of}
use Rattle.row_sweep.specs.Marked.{row_of}
use Rattle.row_sweep.proofs.Reaches.{reaches_on}
use Rattle.row_sweep.proofs.Sound.{row_is_below}
use Rattle.row_sweep.proofs.marking.mark_root.Goals as goal

pub mark-requires-clause-readable : goal.mark-requires-clause-readable
mark-requires-clause-readable c = let s = c.args.seat.now in λ r y. record { at = c.requires.at; reached = reaches_on (words_of s.seat) (row_of c.args.row) r c.requires.reached y }

pub mark-requires-clause-below : goal.mark-requires-clause-below
mark-requires-clause-below c = let s = c.args.seat.now in λ r y.
    let f = row_is_below c.args.sweep.now s.seat s.number s.seats c.requires.at r.0 (reaches_on (words_of s.seat) (row_of c.args.row) r c.requires.reached y) in let e = c.requires.size in omega arith
