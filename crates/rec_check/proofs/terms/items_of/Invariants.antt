use Rattle.rec_check.proofs.Common.{◌≡◌, drop, seen, after, all_of, item_in}
use Rattle.rec_check.proofs.terms.items_of.Given as goal

abbrev pub invariant-loop-node : goal.invariant-loop-node
invariant-loop-node l = after l.items.items (all_of (item_in (seen l.scope)) (drop l.node-index l.nodes)) ≡ all_of (item_in (seen l.scope)) l.nodes
