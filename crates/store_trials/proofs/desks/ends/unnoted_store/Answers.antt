use Rattle.shared_desk.proofs.Telling.{made_may, made_new}
use Rattle.store_trials.proofs.desks.ends.unnoted_store.Goals as goal

pub returns-clause-may : goal.returns-clause-may
returns-clause-may c = made_may (λ v. v.items) c.args.sizes c.make.result c.make.ensures.store c.make.ensures.passes c.make.ensures.ready c.make.ensures.told

pub returns-clause-none : goal.returns-clause-none
returns-clause-none c = made_new (λ v. v.items) c.args.sizes c.make.result c.make.ensures.passes
