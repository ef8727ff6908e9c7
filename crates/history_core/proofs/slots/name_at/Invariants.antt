use Rattle.std.proofs.Common.{◌≡◌, ◌<◌, length}
use Rattle.std.specs.Prelude.{slice_get}
use Rattle.history_core.proofs.slots.name_at.Given as goal

abbrev pub invariant-loop-name : goal.invariant-loop-name
invariant-loop-name l = (slice_get l.name-iterator l.left ≡ slice_get l.list l.index) × (l.left < length l.name-iterator)
