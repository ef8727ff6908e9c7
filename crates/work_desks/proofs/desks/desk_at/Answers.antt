use Rattle.work_desks.proofs.Making.{new_desk_of}
use Rattle.work_desks.proofs.desks.desk_at.Goals as goal

pub returns : goal.returns
returns g c = new_desk_of c.args.store.now c.args.pass c.new.result c.new.ensures.pass c.new.ensures.stack c.new.ensures.unspent
