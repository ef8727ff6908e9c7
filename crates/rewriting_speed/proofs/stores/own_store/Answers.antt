use Rattle.rewriting_speed.proofs.Desks.{own_ready}
use Rattle.rewriting_speed.proofs.stores.own_store.Goals as goal

pub returns : goal.returns
returns c = own_ready c.args.rows c.args.depth c.widest.result c.new.result c.args.plan.now c.args._machine.now c.new.ensures c.widest.ensures.widest c.requires.fits c.requires.depth
