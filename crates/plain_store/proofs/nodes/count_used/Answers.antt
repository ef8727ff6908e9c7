use Rattle.std.proofs.Common.{◌∙◌, ap, arith}
use Rattle.std.specs.Option.{is_some}
use Rattle.plain_store.proofs.Used.{used_more, unused_more}
use Rattle.plain_store.proofs.nodes.count_used.Goals as goal
use Rattle.plain_store.proofs.nodes.count_used.Goals.{then-is_some, else-is_some}

pub loop-i-preserved : goal.loop-i-preserved
loop-i-preserved c =
    let slots = c.args.table.now.slots in
    let told = c.is_some.ensures ∙ ap is_some c.head.ensures in
    let before = c.loop-i.invariant in
    elim c.if-is_some.branch [
      | then-is_some w ↦ (let one = used_more slots c.loop-i.i c.is_some.result told w.if-is_some.true in (omega (arith, one, before.0, w.used-is), omega (arith, before.1, w.used-is)))
      | else-is_some w ↦ (let none = unused_more slots c.loop-i.i c.is_some.result told w.if-is_some.false in (omega (arith, none, before.0, w.used-is), omega (arith, before.1, w.used-is)))
    ]
