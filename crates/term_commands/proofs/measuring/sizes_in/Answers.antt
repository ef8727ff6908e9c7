use Rattle.std.proofs.Common.{Option, None, ap, arith, length}
use Rattle.std.proofs.lemmas.List.{length-replicate}
use Rattle.plain_store.specs.Contents.{Contents}
use Rattle.term_model.specs.Tree.{Tree}
use Rattle.term_commands.proofs.measuring.sizes_in.Goals as goal

pub sizes_by-requires-clause-rows : goal.sizes_by-requires-clause-rows
sizes_by-requires-clause-rows c =
    let made = ap (λ (d : Contents). length d.trees) c.in_ok-store.ensures in
    let none : Option Tree = None in
    let rows = length-replicate c.args.rows none in
    let entered = c.enter.ensures.same.0 in
    omega (arith, made, rows, entered)
