use Rattle.std.proofs.Common.{sym, ◌∙◌}
use Rattle.row_sweep.specs.Read.{stays_in_turn}
use Rattle.row_sweep.proofs.Sweeping.{stored_on}
use Rattle.row_sweep.proofs.collecting.store_all.Goals as goal

pub store_numbers-requires : goal.store_numbers-requires
store_numbers-requires c = let e = c.store_lists-count.ensures in record { at = e.stored.stores; count = e.count; in_use = (e.in_use.0 ∙ sym c.requires.in_use, e.in_use.1) }

pub returns : goal.returns
returns c =
    let a = c.args.seat.now in
    let b = c.store_lists-count.new.seat in
    let d = c.store_numbers.new.seat in
    record {
      stays = stays_in_turn a.seat a.number a.seats b.seat b.number b.seats d.seat d.number d.seats c.store_lists-count.ensures.stays c.store_numbers.ensures.more.stays;
      swept = let b = c.store_lists-count.new.seat in let d = c.store_numbers.new.seat in let e = c.store_numbers.ensures in record {
        count = c.store_lists-count.result;
        stored = stored_on c.args.sweep.now b.seat b.number b.seats c.args.marks.now c.args.kept.live c.args.kept.buckets c.store_lists-count.result c.store_lists-count.ensures.stored d.seat d.number d.seats e.more e.at e.others;
        storing = e.storing;
        base = e.base.0;
        count_is = e.count.0;
        in_use = e.buckets.0;
        seen_base = e.base.1;
        seen_count = e.count.1;
        seen_in_use = e.buckets.1;
      };
    }
