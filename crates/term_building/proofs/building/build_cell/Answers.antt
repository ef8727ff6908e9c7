use Rattle.std.proofs.Common.{◌∙◌}
use Rattle.term_building.proofs.Lists.{may_cell, cell_is}
use Rattle.term_building.proofs.building.build_cell.Goals as goal

pub build-requires-clause-may : goal.build-requires-clause-may
build-requires-clause-may g c = may_cell (g.T.Terms.store c.args.store.now) c.requires.cell c.requires.wide

pub returns-clause-built : goal.returns-clause-built
returns-clause-built g c = λ k. c.in_ok-build.ensures.trees ∙ cell_is (g.T.Terms.store c.args.store.now) k
