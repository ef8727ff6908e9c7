use Rattle.std.proofs.Common.{◌+◌, ◌-◌, ◌*◌, length, drop}
use Rattle.term_model.specs.Tree.{nodes, nodes_all}
use Rattle.plain_rewriting.specs.Boxed.{tree_of, trees_in}
use Rattle.plain_rewriting.proofs.Measures.{cost, sides}
use Rattle.plain_rewriting.proofs.evaluating.+evaluating.Given as goal

abbrev pub decreases-evaluate : goal.decreases-evaluate
decreases-evaluate l = cost l.rules.now l.fuel + (length l.rules.now + 2 + 2 * nodes (tree_of l.pattern.now))

abbrev pub decreases-evaluate_all : goal.decreases-evaluate_all
decreases-evaluate_all l = cost l.rules.now l.fuel + (length l.rules.now + 3 + 2 * nodes_all (trees_in l.patterns.now))

abbrev pub decreases-hold : goal.decreases-hold
decreases-hold l = cost l.rules.now l.fuel + (length l.rules.now + 3 + 2 * sides (drop l.from l.conditions.now))

abbrev pub decreases-reduce : goal.decreases-reduce
decreases-reduce l = cost l.rules.now l.fuel + (length l.rules.now + 1)

abbrev pub decreases-reduce_by : goal.decreases-reduce_by
decreases-reduce_by l = cost l.rules.now l.fuel + (length l.rules.now - l.from)

abbrev pub decreases-replace : goal.decreases-replace
decreases-replace l = cost l.rules.now l.fuel + (length l.rules.now + 2 + 2 * nodes (tree_of l.right.now))
