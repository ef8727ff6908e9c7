use Rattle.store_model.specs.Steps.{newcomer}
use Rattle.store_core.proofs.Deciding.{views_more}
use Rattle.store_core.proofs.machine.fresh.new_views.Goals as goal

pub loop-seat-preserved : goal.loop-seat-preserved
loop-seat-preserved c = views_more c.loop-seat._seat (newcomer c.args.sizes.now) c.in_ok-newcomer.field-0 c.loop-seat.views.items c.push.new.self.items c.loop-seat.invariant c.in_ok-newcomer.ensures c.in_ok-push.ensures.items
