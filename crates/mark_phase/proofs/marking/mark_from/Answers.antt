use Rattle.std.proofs.Common.{◌≡◌, ◌-◌, ◌<◌, List, [], length, take, get_or, arith, sym, subst, rules}
use Rattle.std.specs.Prelude.{Contains}
use Rattle.term_model.specs.declared.Row.{Row}
use Rattle.mark_phase.specs.Reachable.{itself, child}
use Rattle.mark_phase.specs.Steps.{Halfway}
use Rattle.mark_phase.proofs.Counting.{count-length}
use Rattle.mark_phase.proofs.Visiting.{visited, popped, idle, ahead_of_all, finished, one_less, last_waits, same_halfway}
use Rattle.mark_phase.proofs.marking.mark_from.Goals as goal

pub visit-used-requires-clause-below : goal.visit-used-requires-clause-below
visit-used-requires-clause-below g c = c.requires.below c.args.root itself

pub rows-init : goal.rows-init
rows-init g c =
    let children = g.G.Graph.children c.args.graph.now in
    let m = c.args.marked.now in
    let start = visited children c.args.root m m [] c.args.root c.args.root [] (c.requires.below c.args.root itself) (ahead_of_all children c.args.root m c.requires.closed) in
    record {
      halfway = rw (c.visit-used.ensures.marked, c.visit-used.ensures.waiting) start;
      room = omega (arith, c.requires.room);
      used = c.visit-used.ensures.used;
      same = g.met.G.Graph.same_as_itself c.args.graph.now;
    }

pub slice_copy_out-row : goal.slice_copy_out-row
slice_copy_out-row g c = omega (arith, c.rows.invariant.used, c.rows.invariant.room, count-length c.rows.marked)

pub offset_bounds-waiting-used : goal.offset_bounds-waiting-used
offset_bounds-waiting-used g c =
    let below : c.rows.used - 1 < length c.rows.waiting = omega (arith, c.rows.invariant.used, c.rows.invariant.room, count-length c.rows.marked) in
    search rules

pub visit_children-used-requires-clause-may : goal.visit_children-used-requires-clause-may
visit_children-used-requires-clause-may g c =
    let d : Row = record { 0 = 0 } in
    let below : c.rows.used - 1 < length c.rows.waiting = omega (arith, c.rows.invariant.used, c.rows.invariant.room, count-length c.rows.marked) in
    let row = get_or c.rows.waiting (c.rows.used - 1) d in
    let reaches = c.rows.invariant.halfway.waiting row (last_waits c.rows.waiting c.rows.used d (omega arith) below) in
    g.met.G.Graph.same_reading _ _ c.rows.invariant.same row (c.requires.readable row reaches)

pub visit_children-used-requires-clause-below : goal.visit_children-used-requires-clause-below
visit_children-used-requires-clause-below g c = λ q h.
    let d : Row = record { 0 = 0 } in
    let children = g.G.Graph.children c.args.graph.now in
    let below : c.rows.used - 1 < length c.rows.waiting = omega (arith, c.rows.invariant.used, c.rows.invariant.room, count-length c.rows.marked) in
    let row = get_or c.rows.waiting (c.rows.used - 1) d in
    let reaches = c.rows.invariant.halfway.waiting row (last_waits c.rows.waiting c.rows.used d (omega arith) below) in
    let e = g.met.G.Graph.same_children _ _ c.rows.invariant.same row in
    let there = c.requires.below q (child reaches (subst (λ (xs : List Row). Contains xs q) e h)) in
    omega (arith, there, c.rows.invariant.halfway.rows)

pub rows-preserved : goal.rows-preserved
rows-preserved g c =
    let d : Row = record { 0 = 0 } in
    let children = g.G.Graph.children c.args.graph.now in
    let m = c.rows.marked in
    let old = c.args.marked.now in
    let root = c.args.root in
    let below : c.rows.used - 1 < length c.rows.waiting = omega (arith, c.rows.invariant.used, c.rows.invariant.room, count-length m) in
    let row = get_or c.rows.waiting (c.rows.used - 1) d in
    let pending = take (c.rows.used - 1) c.rows.waiting in
    let half = subst (λ (xs : List Row). Halfway children root old m xs root []) (one_less c.rows.waiting c.rows.used d (omega arith) below) c.rows.invariant.halfway in
    let taken = popped children root old m pending root row half in
    let now = g.G.Graph.children c.rows.graph in
    let e = g.met.G.Graph.same_children _ _ c.rows.invariant.same in
    let there = same_halfway children now root old m pending row (children row) e taken in
    let ready = subst (λ (xs : List Row). Halfway now root old m pending row xs) (sym (e row)) there in
    let m' = c.visit_children-used.new.marked in
    let pending' = take c.visit_children-used.result c.visit_children-used.new.waiting in
    let done = c.visit_children-used.ensures.halfway old root ready in
    let back = same_halfway now children root old m' pending' row [] (λ r. sym (e r)) done in
    record {
      halfway = idle children root old m' pending' row back;
      room = omega (arith, c.rows.invariant.room);
      used = c.visit_children-used.ensures.used;
      same = g.met.G.Graph.same_in_turn _ _ _ c.rows.invariant.same c.visit_children-used.ensures.same;
    }

pub rows-smaller : goal.rows-smaller
rows-smaller g c =
    omega (arith, c.visit_children-used.ensures.less, count-length c.rows.marked, count-length c.visit_children-used.new.marked)

pub returns-clause-marked : goal.returns-clause-marked
returns-clause-marked g c =
    let children = g.G.Graph.children c.args.graph.now in
    let none : c.rows.used ≡ 0 = omega arith in
    let half = subst (λ n. Halfway children c.args.root c.args.marked.now c.rows.marked (take n c.rows.waiting) c.args.root []) none c.rows.invariant.halfway in
    finished children c.args.root c.args.marked.now c.rows.marked half
