use Rattle.std.proofs.Common.{◌≡◌, replicate}
use Rattle.store_model.specs.Steps.{newcomer}
use Rattle.store_core.proofs.machine.fresh.new_views.Given as goal

abbrev pub invariant-loop-seat : goal.invariant-loop-seat
invariant-loop-seat l = l.views.items ≡ replicate l._seat (newcomer l.sizes)
