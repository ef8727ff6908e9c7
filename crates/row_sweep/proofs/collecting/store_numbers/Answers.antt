use Rattle.std.proofs.Common.{refl, sym, ◌∙◌}
use Rattle.store_model.specs.declared.view.Place.TheVariants.{FreeCount, InUse}
use Rattle.row_sweep.specs.Stored.{seen_of}
use Rattle.row_sweep.proofs.Writes.{written_other, stores_in_turn, number_count, number_use, number_base, number_others}
use Rattle.row_sweep.proofs.collecting.store_numbers.Goals as goal

pub returns : goal.returns
returns c =
    let a = c.args.seat.now in
    let b = c.put_over.new.seat in
    let d = c.put_over-2.new.seat in
    let e = c.put.new.seat in
    record {
      at = c.put.ensures.at;
      more = stores_in_turn a.seat a.number a.seats b.seat b.number b.seats e.seat e.number e.seats c.put_over.ensures.more
          (stores_in_turn b.seat b.number b.seats d.seat d.number d.seats e.seat e.number e.seats c.put_over-2.ensures.more c.put.ensures.more);
      storing = c.put.ensures.storing;
      count = let a = c.args.seat.now in let b = c.put_over.new.seat in let d = c.put_over-2.new.seat in let e = c.put.new.seat in (
        number_count (seen_of a.seat) (seen_of b.seat) (seen_of d.seat) (seen_of e.seat) _ _ _ c.put_over.ensures.words c.put_over-2.ensures.words c.put.ensures.words ∙ c.from-count.ensures,
        c.put.ensures.more.seen FreeCount (c.put_over-2.ensures.more.seen FreeCount c.put_over.ensures.has),
      );
      buckets = let a = c.args.seat.now in let b = c.put_over.new.seat in let d = c.put_over-2.new.seat in let e = c.put.new.seat in (
        number_use (seen_of a.seat) (seen_of b.seat) (seen_of d.seat) (seen_of e.seat) _ _ _ c.put_over.ensures.words c.put_over-2.ensures.words c.put.ensures.words ∙ c.from-buckets.ensures,
        c.put.ensures.more.seen InUse c.put_over-2.ensures.has,
      );
      base = (number_base (seen_of a.seat) (seen_of b.seat) (seen_of d.seat) (seen_of e.seat) _ _ _ c.put_over.ensures.words c.put_over-2.ensures.words c.put.ensures.words, c.put.ensures.has);
      others = number_others (seen_of a.seat) (seen_of b.seat) (seen_of d.seat) (seen_of e.seat) _ _ _ c.put_over.ensures.words c.put_over-2.ensures.words c.put.ensures.words;
    }

pub put_over-requires-2-clause-seen : goal.put_over-requires-2-clause-seen
put_over-requires-2-clause-seen c = let a = c.args.seat.now in let b = c.put_over.new.seat in (
  written_other (seen_of b.seat) (seen_of a.seat) FreeCount _ c.put_over.ensures.words InUse refl ∙ (c.requires.in_use.0 ∙ sym c.from-in_use.ensures),
  c.put_over.ensures.more.seen InUse c.requires.in_use.1,
)
