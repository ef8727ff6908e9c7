use Rattle.std.proofs.Common.{◌≡◌, ◌<◌, ℕ, Bool, List, length}
use Rattle.std.specs.Prelude.{Contains}
use Rattle.mark_phase.specs.Reachable.{IsClosed}
use Rattle.history_core.specs.Slots.{children}
use Rattle.history_core.specs.Marking.{AddsAll}
use Rattle.history_core.proofs.marking.mark_names.Given as goal

abbrev pub invariant-loop-name : goal.invariant-loop-name
invariant-loop-name l =
    record {
      same : l.slots ≡ l.fn.slots;
      size : length l.marks ≡ length l.fn.slots;
      within : (n : ℕ) → Contains l.name-iterator n → n < length l.fn.slots;
      closed : IsClosed (children l.fn.slots) l.marks;
      marked : (new : List Bool) → AddsAll (children l.fn.slots) l.name-iterator l.marks new → AddsAll (children l.fn.slots) l.names l.fn.marks new;
    }
