use Rattle.std.proofs.Common.{◌≡◌, ◌∙◌, length, arith}
use Rattle.plain_store.proofs.Filling.{put_next}
use Rattle.plain_store.proofs.table.put.Goals as goal

pub returns-then-len-row-clause-items : goal.returns-then-len-row-clause-items
returns-then-len-row-clause-items c =
    let es = c.args.entries.now in
    let here : length es.items ≡ c.args.row.0 = omega (arith, c.if-len-row.true, c.len.ensures, es.ok.0) in
    c.push_reserved.ensures.items ∙ put_next c.args.row.0 es.items c.args.entry here
