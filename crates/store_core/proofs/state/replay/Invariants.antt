use Rattle.std.proofs.Common.{◌≡◌, take}
use Rattle.store_model.specs.StoreSteps.{Leads}
use Rattle.store_model.specs.NewStore.{start_of}
use Rattle.store_core.specs.StoreValue.{state_of}
use Rattle.store_core.proofs.state.replay.Given as goal

abbrev pub invariant-loop-seat : goal.invariant-loop-seat
invariant-loop-seat l = (l.store.sizes ≡ l.fn.sizes) × Leads l.fn.sizes (start_of l.fn.sizes) (take l.seat-index l.steps) (state_of l.store)
