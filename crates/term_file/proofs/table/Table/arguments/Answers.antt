use Rattle.term_file.proofs.TableLaws.{are_lesser}
use Rattle.term_file.proofs.table.Table.arguments.Goals as goal

pub returns-clause-lesser : goal.returns-clause-lesser
returns-clause-lesser c = are_lesser _ _ _ c.self.view_is c.self.invariant
