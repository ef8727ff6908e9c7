use Rattle.std.proofs.Common.{arith}
use Rattle.term_file.proofs.TableLaws.{counts_shown, count_read}
use Rattle.term_file.proofs.table.Table.node_count.Goals as goal

pub index-requires : goal.index-requires
index-requires c = omega (arith, c.requires, counts_shown _ _ _ c.self.view_is c.self.invariant, c.self.inside.nodes.ok.0)

pub returns : goal.returns
returns c = count_read _ _ _ _ _ c.self.view_is c.self.invariant c.requires c.index.ensures
