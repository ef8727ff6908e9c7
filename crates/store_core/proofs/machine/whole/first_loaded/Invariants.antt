use Rattle.std.proofs.Common.{◌≡◌, drop}
use Rattle.store_model.specs.Steps.{value_at}
use Rattle.store_core.proofs.machine.whole.first_loaded.Given as goal

abbrev pub invariant-loop-from : goal.invariant-loop-from
invariant-loop-from l = value_at l.place l.loads ≡ value_at l.place (drop l.from-index l.loads)
