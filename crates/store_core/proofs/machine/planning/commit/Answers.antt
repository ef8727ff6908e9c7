use Rattle.store_core.proofs.Planning.{committed}
use Rattle.store_core.proofs.machine.planning.commit.Goals as goal

pub returns-clause-state : goal.returns-clause-state
returns-clause-state c = committed c.args.table.now.sizes c.store.new.table.sizes c.args.lock.now c.set_lock.new.lock c.args.table.now.words.items c.store.new.table.words.items c.args.views.now.items c.args.seat c.args.change c.args.view c.set_lock.ensures c.store.ensures.words c.store.ensures.sizes c.requires.seat
