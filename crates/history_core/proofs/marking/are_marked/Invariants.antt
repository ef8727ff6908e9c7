use Rattle.std.proofs.Common.{◌≡◌, drop, ◌↔◌}
use Rattle.history_core.specs.Marking.{marked_names}
use Rattle.history_core.proofs.marking.are_marked.Given as goal

abbrev pub invariant-loop-name : goal.invariant-loop-name
invariant-loop-name l = (l.left ≡ marked_names l.name (drop l.name l.marks)) ↔ (l.names ≡ marked_names 0 l.marks)
