use Rattle.std.proofs.Common.{◌<◌, arith}
use Rattle.store_model.specs.Shown.{shown}
use Rattle.store_core.specs.RowLists.{item_place}
use Rattle.store_core.proofs.RowLists.{listed_more}
use Rattle.store_core.proofs.machine.row_lists.rows_of.Goals as goal

pub loop-k-preserved : goal.loop-k-preserved
loop-k-preserved c =
    let z = c.args.table.now.sizes in
    let below : c.in_ok-row.row < z.rows = (let l = c.if-row-from.false in let e = c.from.ensures in omega arith) in
    listed_more (λ k. shown z c.args.table.now.words.items (item_place c.args.list k)) z.rows c.loop-k.k c.loop-k.rows.items c.push.new.self.items c.in_ok-row.row c.loop-k.invariant c.in_ok-push.ensures.items c.in_ok-row.ensures below
