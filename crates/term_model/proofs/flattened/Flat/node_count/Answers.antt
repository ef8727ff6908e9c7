use Rattle.std.proofs.Common.{◌≡◌, ◌∙◌, ap, length, arith}
use Rattle.term_model.specs.Tree.{nodes}
use Rattle.term_model.proofs.Subtrees.{items_are_nodes, some_nodes}
use Rattle.term_model.proofs.flattened.Flat.node_count.Goals as goal

count : (c : goal.After-items) → length c.items.result.now ≡ nodes c.args.self.now
count c = ap length c.items.ensures.items ∙ items_are_nodes c.args.self.now

pub returns-clause-nodes : goal.returns-clause-nodes
returns-clause-nodes c = count c

pub returns-clause-never_none : goal.returns-clause-never_none
returns-clause-never_none c = omega (arith, count c, some_nodes c.args.self.now)
