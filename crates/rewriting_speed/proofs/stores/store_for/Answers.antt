use Rattle.shared_desk.proofs.Telling.{made_may}
use Rattle.rewriting_speed.specs.Shared.{sizes_of}
use Rattle.rewriting_speed.proofs.Desks.{sizes_are}
use Rattle.rewriting_speed.proofs.stores.store_for.Goals as goal

pub returns-clause-sizes : goal.returns-clause-sizes
returns-clause-sizes c = sizes_are c.sizes_for.result (sizes_of c.args.widest) c.make.result c.sizes_for.ensures.sizes c.make.ensures.store

pub returns-clause-may : goal.returns-clause-may
returns-clause-may c = made_may (λ v. v.items) c.sizes_for.result c.make.result c.make.ensures.store c.make.ensures.passes c.make.ensures.ready c.make.ensures.told
