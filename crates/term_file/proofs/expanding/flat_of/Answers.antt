use Rattle.term_file.specs.Contents as contents
use Rattle.term_file.proofs.Expanded.{spelled_tree}
use Rattle.term_file.proofs.expanding.flat_of.Goals as goal

pub returns : goal.returns
returns c = spelled_tree c.in_ok-items.items.items (contents.tree_at (contents.trees c.args.table.now) c.args.root) c.in-Some.flat c.requires.well_formed c.in_ok-items.ensures c.in-Some.ensures.tree
