use Rattle.rec_check.proofs.Common.{◌≡◌, drop, seen, after, all_of, tree_in}
use Rattle.rec_check.proofs.terms.trees_of.Given as goal

abbrev pub invariant-loop-nodes : goal.invariant-loop-nodes
invariant-loop-nodes l = after l.trees.items (all_of (tree_in (seen l.scope)) (drop l.nodes-index l.terms)) ≡ all_of (tree_in (seen l.scope)) l.terms
