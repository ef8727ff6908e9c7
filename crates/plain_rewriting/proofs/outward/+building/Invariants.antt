use Rattle.std.proofs.Common.{◌+◌, ◌*◌}
use Rattle.term_model.specs.Tree.{nodes, nodes_all}
use Rattle.plain_rewriting.specs.Boxed.{tree_of, trees_in}
use Rattle.plain_rewriting.proofs.outward.+building.Given as goal

abbrev pub decreases-build : goal.decreases-build
decreases-build l = 2 * nodes (tree_of l.pattern.now)

abbrev pub decreases-build_all : goal.decreases-build_all
decreases-build_all l = 2 * nodes_all (trees_in l.patterns.now) + 1
