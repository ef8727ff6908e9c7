use Rattle.std.proofs.Common.{◌≡◌, ◌+◌, ◌*◌, ◌≤◌, List, Bool, length, take, drop}
use Rattle.term_model.specs.declared.Row.{Row}
use Rattle.mark_phase.specs.Steps.{Halfway, marked_count}
use Rattle.mark_phase.proofs.marking.visit_children.Given as goal

-- the children up to j are visited
abbrev pub invariant-loop-j : goal.invariant-loop-j
invariant-loop-j g l =
    let children = g.G.Graph.children l.fn.graph in
    record {
      halfway : (old : List Bool) (root : Row) → Halfway children root old l.fn.marked (take l.fn.used l.fn.waiting) l.fn.row (children l.fn.row) → Halfway children root old l.marked (take l.used l.waiting) l.fn.row (drop l.j (children l.fn.row));
      size : length l.marked ≡ length l.fn.marked;
      room : length l.waiting ≡ length l.marked;
      used : l.used ≤ marked_count l.marked;
      less : l.used + 2 * marked_count l.fn.marked ≤ l.fn.used + 2 * marked_count l.marked;
      same : g.G.Graph.same l.fn.graph l.graph;
    }
