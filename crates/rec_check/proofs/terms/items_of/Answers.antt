use Rattle.rec_check.proofs.Declaring.{next, one_spelled}
use Rattle.rec_check.proofs.terms.items_of.Goals as goal

pub item_of-requires : goal.item_of-requires
item_of-requires c = one_spelled _ _ _ _ _ c.loop-node.invariant _ c.loop-node-test.true c.requires

pub loop-node-preserved : goal.loop-node-preserved
loop-node-preserved c = rw c.in_ok-push.ensures.items (next _ _ _ _ _ c.loop-node.invariant _ c.loop-node-test.true _ c.item_of.ensures)
