use Rattle.term_file.proofs.TableLaws.{found_entry, absent_entry}
use Rattle.term_file.proofs.table.Table.find.Goals as goal

pub returns-clause-found : goal.returns-clause-found
returns-clause-found c = found_entry c.args.entry.now c.self.inside.records.keys _ _ c.get_index_of.ensures.index c.self.view_is

pub returns-clause-absent : goal.returns-clause-absent
returns-clause-absent c = absent_entry c.args.entry.now c.self.inside.records.keys _ _ c.get_index_of.ensures.found c.self.view_is
