use Rattle.shared_desk.proofs.Telling.{made_may}
use Rattle.store_trials.proofs.desks.new_store.Goals as goal

pub returns : goal.returns
returns c = made_may (λ v. v.items) c.args.sizes c.make.result c.make.ensures.store c.make.ensures.passes c.make.ensures.ready c.make.ensures.told
