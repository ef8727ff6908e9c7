use Rattle.std.proofs.Common.{◌≡◌, sym, ap, ◌∙◌, subst, arith}
use Rattle.store_model.specs.declared.view.Sizes.{Sizes}
use Rattle.row_sweep.specs.Gathered.{sizes_of}
use Rattle.row_sweep.specs.Read.{stays_in_turn}
use Rattle.row_sweep.proofs.Compares.{heads_few, nexts_few, all_compared}
use Rattle.row_sweep.proofs.Ending.{inside_marks}
use Rattle.row_sweep.specs.Gathered.{words_of}
use Rattle.row_sweep.specs.Compared.{Notes}
use Rattle.row_sweep.specs.Turns.{order_for}
use Rattle.row_sweep.specs.declared.turns.Order.{Order}
use Rattle.row_sweep.proofs.comparing.compare_all.Goals as goal

pub compare_rows-requires-clause-at : goal.compare_rows-requires-clause-at
compare_rows-requires-clause-at c = c.requires.out.gathered

pub compare_rows-requires-clause-marks : goal.compare_rows-requires-clause-marks
compare_rows-requires-clause-marks c = c.requires.out.reached.size

pub compare_rows-requires-clause-small : goal.compare_rows-requires-clause-small
compare_rows-requires-clause-small c = λ r m.
    let h = c.requires.out in
    let z = sizes_of c.args.sweep.now in
    let inside = inside_marks c.args.marks.now r m in
    let size = h.reached.size in
    let few = nexts_few (words_of c.args.seat.now.seat) c.args.marks.now c.args.kept.buckets z.rows c.args.heads.now c.args.nexts.now h.chains r (omega arith) m in
    let d = ap (λ (y : Sizes). y.rows) c.args.sweep.now.at.told in
    let k = c.args.sweep.now.may.rows.1 in omega arith

pub compare_heads-requires-clause-within : goal.compare_heads-requires-clause-within
compare_heads-requires-clause-within c = c.requires.out.within

pub compare_heads-requires-clause-small : goal.compare_heads-requires-clause-small
compare_heads-requires-clause-small c = λ b l.
    let h = c.requires.out in
    let z = sizes_of c.args.sweep.now in
    let few = heads_few (words_of c.args.seat.now.seat) c.args.marks.now c.args.kept.buckets z.rows c.args.heads.now c.args.nexts.now h.chains b l in
    let d = ap (λ (y : Sizes). y.rows) c.args.sweep.now.at.told in
    let k = c.args.sweep.now.may.rows.1 in omega arith

pub returns : goal.returns
returns c =
    let a = c.args.seat.now in
    let b = c.compare_rows.new.seat in
    let d = c.compare_heads.new.seat in
    let s = c.args.sweep.now in
    let same : c.order_for-order.result ≡ order_for (sizes_of s) c.args.kept.live = c.order_for-order.ensures ∙ ap (λ (z : Sizes). order_for z c.args.kept.live) (sym s.at.told) in
    let notes = subst (λ (o : Order). Notes (words_of a.seat) s.count c.args.marks.now c.args.nexts.now c.compare_rows.new.cells (sizes_of s) o (sizes_of s).rows) same c.compare_rows.ensures.notes in
    record {
      stays = stays_in_turn a.seat a.number a.seats b.seat b.number b.seats d.seat d.number d.seats c.compare_rows.ensures.again.stays c.compare_heads.ensures.again.stays;
      compared = all_compared c.args.sweep.now a.seat a.number a.seats c.args.marks.now c.args.nexts.now c.args.heads.now c.args.kept.live c.args.kept.buckets c.requires.out
          b.seat b.number b.seats d.seat d.number d.seats c.compare_rows.ensures.again c.compare_heads.ensures.again c.compare_heads.ensures.at
          c.compare_rows.new.cells c.compare_heads.new.heads notes c.compare_heads.ensures.tells;
      lengths = (c.compare_rows.ensures.size, c.compare_heads.ensures.size);
    }
