use Rattle.rewriting_speed.proofs.Desks.{may_size}
use Rattle.rewriting_speed.proofs.stores.sizes_for.Goals as goal

pub returns-clause-may : goal.returns-clause-may
returns-clause-may c = may_size c.args.widest c.requires
