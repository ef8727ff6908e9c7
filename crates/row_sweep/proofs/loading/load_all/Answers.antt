use Rattle.row_sweep.proofs.Gathering.{all_loaded}
use Rattle.row_sweep.proofs.Loads.{more_in_turn}
use Rattle.row_sweep.proofs.loading.load_all.Goals as goal

pub returns : goal.returns
returns c =
    let a = c.args.seat.now in
    let b = c.load_lists.new.seat in
    let d = c.load_rows.new.seat in
    let e = c.load_seats.new.seat in
    record {
      at = all_loaded c.args.sweep.now b.seat b.number b.seats d.seat d.number d.seats e.seat e.number e.seats c.load_lists.ensures.loaded c.load_rows.ensures.more c.load_rows.ensures.loaded c.load_seats.ensures.at c.load_seats.ensures.more c.load_seats.ensures.loaded;
      more = more_in_turn a.seat a.number a.seats b.seat b.number b.seats e.seat e.number e.seats c.load_lists.ensures.more
          (more_in_turn b.seat b.number b.seats d.seat d.number d.seats e.seat e.number e.seats c.load_rows.ensures.more c.load_seats.ensures.more);
    }
