use Rattle.rec_includes.proofs.Common.{common_steps, ◌<◌, add-one, arith, All-from_recursion, parent_of, preorder}
use Rattle.rec_includes.proofs.Forests.{parent_before, parent_is, all_before, preorder_below, preorder_distinct}
use Rattle.rec_includes.proofs.ordering.chained.Goals as goal

pub put-requires-clause-parent : goal.put-requires-clause-parent
put-requires-clause-parent c = grind (arith, common_steps, parent_is, all_before, parent_before)

pub loop-number-preserved : goal.loop-number-preserved
loop-number-preserved c =
    let h = c.args.headers.now in
    let n = c.loop-number.number in
    let parent = parent_of h.bytes h.names c.args.specifications.now in
    let below = All-from_recursion (λ m. m < n) (preorder parent n) (preorder_below parent n) in
    grind (arith, common_steps, add-one, parent_is, c.put.ensures.put (preorder parent n) (preorder_distinct parent n) below c.loop-number.invariant.leads)
