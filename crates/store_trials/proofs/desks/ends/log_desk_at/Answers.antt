use Rattle.std.proofs.Common.{refl}
use Rattle.shared_desk.specs.Passes.{seen_of}
use Rattle.shared_desk.proofs.Telling.{wide_enough}
use Rattle.store_trials.proofs.desks.ends.log_desk_at.Goals as goal

pub returns-clause-width : goal.returns-clause-width
returns-clause-width g c = wide_enough (λ d. d.pass) (seen_of c.args.store.now c.args.pass) c.args.store.now.sizes c.new.result refl c.new.ensures.pass
