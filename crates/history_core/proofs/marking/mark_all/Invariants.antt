use Rattle.std.proofs.Common.{◌≡◌, Bool, List, false, drop, length, replicate}
use Rattle.mark_phase.specs.Reachable.{IsClosed}
use Rattle.history_core.specs.Slots.{children}
use Rattle.history_core.specs.Marking.{AddsAll, joined}
use Rattle.history_core.proofs.marking.mark_all.Given as goal

abbrev pub invariant-loop-names : goal.invariant-loop-names
invariant-loop-names l =
    record {
      same : l.slots ≡ l.fn.slots;
      size : length l.marks ≡ length l.fn.slots;
      closed : IsClosed (children l.fn.slots) l.marks;
      marked : (new : List Bool) → AddsAll (children l.fn.slots) (joined (drop l.names-index l.roots)) l.marks new
          → AddsAll (children l.fn.slots) (joined l.roots) (replicate (length l.fn.marks) false) new;
    }
