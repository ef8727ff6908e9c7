use Rattle.history_core.proofs.Tables.{table_put}
use Rattle.history_core.proofs.term_table.TermTable.make.Goals as goal

pub invariant_of-self : goal.invariant_of-self
invariant_of-self c =
    table_put c.self.inside.slots c.put_new.new.slots c.self.inside.roots.items c.self.inside.marks c.args.head c.args.args.now c.args.row c.put_new.result c.self.invariant
    c.put_new.ensures.made c.put_new.ensures.memory
