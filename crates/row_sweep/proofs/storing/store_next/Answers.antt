use Rattle.std.proofs.Common.{get_or}
use Rattle.store_model.specs.declared.view.Place.TheVariants.{Next}
use Rattle.row_sweep.specs.Compared.{told_by}
use Rattle.row_sweep.specs.Stored.{seen_of}
use Rattle.row_sweep.proofs.Writes.{written_here, written_other}
use Rattle.row_sweep.proofs.storing.store_next.Goals as goal

pub returns : goal.returns
returns c = record {
  at = c.put_next.ensures.at;
  more = c.put_next.ensures.more;
  next = λ m. let u = seen_of c.args.seat.now.seat in
      written_here (seen_of c.put_next.new.seat.seat) u (Next c.args.row) (told_by (u (Next c.args.row)) (get_or c.args.nexts.now c.args.row 0)) c.put_next.ensures.words;
  others = λ p not. let u = seen_of c.args.seat.now.seat in
      written_other (seen_of c.put_next.new.seat.seat) u (Next c.args.row) (told_by (u (Next c.args.row)) (get_or c.args.nexts.now c.args.row 0)) c.put_next.ensures.words p not;
}
