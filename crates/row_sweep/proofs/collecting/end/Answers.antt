use Rattle.row_sweep.proofs.Ending.{ends_by}
use Rattle.row_sweep.proofs.Sweeping.{swept_ends}
use Rattle.row_sweep.proofs.collecting.end.Goals as goal

pub store_claim-requires-clause-may : goal.store_claim-requires-clause-may
store_claim-requires-clause-may c = let s = c.args.seat.now in ends_by c.args.sweep.now s.seat s.number s.seats c.args.marks.now c.args.kept.live c.args.kept.buckets c.requires.swept

pub returns : goal.returns
returns c = let s = c.args.seat.now in let t = c.store_claim.new.seat in let e = c.store_claim.ensures in
    record { ends = swept_ends c.args.sweep.now s.seat s.number s.seats c.args.marks.now c.args.kept.live c.args.kept.buckets c.requires.swept t.seat t.number t.seats e.same.0 e.same.1 e.same.2 e.view e.known e.crowd e.has_crowd.crowd.names }
