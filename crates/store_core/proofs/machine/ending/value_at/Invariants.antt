use Rattle.std.proofs.Common.{◌≡◌, map}
use Rattle.store_model.specs.Steps.{value_at}
use Rattle.store_core.proofs.machine.ending.value_at.Given as goal

abbrev pub invariant-loop-load : goal.invariant-loop-load
invariant-loop-load l = l.value ≡ value_at l.place (map (λ load. load.now) l.yielded)
