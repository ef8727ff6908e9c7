use Rattle.history_core.specs.TermSet.{empty}
use Rattle.node_rows.proofs.Named.{entry_names}
use Rattle.node_rows.proofs.law.entries_name_trees.Goals as goal

pub returns : goal.returns
returns c = λ before rest x legal. entry_names c.args.about.now.rows empty before rest x legal
