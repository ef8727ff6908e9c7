use Rattle.std.proofs.Common.{get_or, refl}
use Rattle.store_core.proofs.Reached.{adds_more}
use Rattle.store_core.proofs.machine.reached.mark_all.Goals as goal

pub loop-row-preserved : goal.loop-row-preserved
loop-row-preserved c =
    let had = c.args.marking.now in
    let m = c.loop-row.marking in
    let n = c.mark.new.marking in
    adds_more (λ k. get_or c.args.rows.now k 0) c.loop-row.row-index _ had.marked.items m.marked.items n.marked.items had.waiting.items m.waiting.items n.waiting.items refl c.loop-row.invariant c.in_ok-mark.ensures
