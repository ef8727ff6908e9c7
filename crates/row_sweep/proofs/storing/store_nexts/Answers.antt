use Rattle.store_model.specs.declared.view.Sizes.{Sizes}
use Rattle.std.proofs.Common.{refl, arith, ap}
use Rattle.row_sweep.specs.Stored.{seen_of}
use Rattle.row_sweep.proofs.Writes.{stores_itself, stores_in_turn, nexts_more, nexts_rest, next_others}
use Rattle.row_sweep.proofs.storing.store_nexts.Goals as goal

pub loop-row-init : goal.loop-row-init
loop-row-init c = let s = c.args.seat.now in record { at = c.requires.at; more = stores_itself s.seat s.number s.seats; nexts = λ r l. absurd (omega arith); rest = λ r l. refl; others = λ p is. refl }

pub loop-row-preserved : goal.loop-row-preserved
loop-row-preserved c =
    let a = c.args.seat.now in
    let t = c.loop-row.seat in
    let s = c.store_next.new.seat in
    let i = c.loop-row.invariant in
    let e = c.store_next.ensures in record {
      at = e.at;
      more = stores_in_turn a.seat a.number a.seats t.seat t.number t.seats s.seat s.number s.seats i.more e.more;
      nexts = nexts_more (seen_of a.seat) (seen_of t.seat) (seen_of s.seat) c.loop-row.row e.others c.args.marks.now c.args.nexts.now e.next (i.rest c.loop-row.row (omega arith)) i.nexts;
      rest = nexts_rest (seen_of a.seat) (seen_of t.seat) (seen_of s.seat) c.loop-row.row e.others i.rest;
      others = next_others (seen_of a.seat) (seen_of t.seat) (seen_of s.seat) c.loop-row.row e.others i.others;
    }

pub returns : goal.returns
returns c = record {
  at = c.loop-row.invariant.at;
  more = c.loop-row.invariant.more;
  nexts = λ r l. c.loop-row.invariant.nexts r (let told = ap (λ (z : Sizes). z.rows) c.args.sweep.now.at.told in let past = c.loop-row-test.false in omega arith);
  others = c.loop-row.invariant.others;
}
