use Rattle.std.proofs.Common.{◌≡◌, ◌+◌, ◌-◌, ◌*◌, ◌≤◌, [], length, take}
use Rattle.mark_phase.specs.Steps.{Halfway, marked_count}
use Rattle.mark_phase.proofs.marking.mark_from.Given as goal

abbrev pub invariant-rows : goal.invariant-rows
invariant-rows g l =
    record {
      halfway : Halfway (g.G.Graph.children l.fn.graph) l.fn.root l.fn.marked l.marked (take l.used l.waiting) l.fn.root [];
      room : length l.waiting ≡ length l.marked;
      used : l.used ≤ marked_count l.marked;
      same : g.G.Graph.same l.fn.graph l.graph;
    }

-- a row that waits is taken, and each that comes to wait has one mark more
abbrev pub decreases-rows : goal.decreases-rows
decreases-rows g l = l.used + 2 * (length l.marked - marked_count l.marked)
