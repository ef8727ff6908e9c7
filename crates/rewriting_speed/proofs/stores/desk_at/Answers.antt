use Rattle.rewriting_speed.proofs.Desks.{ready_of}
use Rattle.rewriting_speed.proofs.stores.desk_at.Goals as goal

pub returns : goal.returns
returns g c =
    ready_of c.args.store.now c.args.pass c.new.result c.args._plan.now c.args._machine.now c.new.ensures.pass c.new.ensures.stack c.new.ensures.outside c.requires.fits c.requires.sizes c.requires.depth
