use Rattle.std.proofs.Common.{◌≡◌, ◌+◌, ◌<◌, List, [], Some, length, take, drop, arith, refl, ap, ◌∙◌, subst}
use Rattle.std.specs.Prelude.{slice_get}
use Rattle.std.proofs.Math.Seq.{drop-length}
use Rattle.term_model.specs.declared.Row.{Row}
use Rattle.mark_phase.specs.Steps.{Halfway}
use Rattle.mark_phase.proofs.Visiting.{visited, contains_at, drop_at}
use Rattle.mark_phase.proofs.marking.visit_children.Goals as goal

pub loop-j-init : goal.loop-j-init
loop-j-init g c =
    record {
      halfway = λ old root h. h;
      size = refl;
      room = c.requires.room;
      used = c.requires.used;
      less = omega arith;
      same = c.count-j-end.ensures.same;
    }

pub child-child-requires-clause-may : goal.child-child-requires-clause-may
child-child-requires-clause-may g c =
    g.met.G.Graph.same_reading _ _ c.loop-j.invariant.same c.args.row c.requires.may

pub child-child-requires-clause-below : goal.child-child-requires-clause-below
child-child-requires-clause-below g c =
    let e = g.met.G.Graph.same_children _ _ c.loop-j.invariant.same c.args.row in
    omega (arith, ap length e, c.count-j-end.ensures.count)

pub visit-used-requires-clause-below : goal.visit-used-requires-clause-below
visit-used-requires-clause-below g c =
    let e = g.met.G.Graph.same_children _ _ c.loop-j.invariant.same c.args.row in
    let at = subst (λ (xs : List Row). slice_get xs c.loop-j.j ≡ Some c.child-child.result) e c.child-child.ensures.child in
    let below = c.requires.below c.child-child.result (contains_at (g.G.Graph.children c.args.graph.now c.args.row) c.loop-j.j c.child-child.result at) in
    omega (arith, below, c.loop-j.invariant.size)

pub visit-used-requires-clause-used : goal.visit-used-requires-clause-used
visit-used-requires-clause-used g c = c.loop-j.invariant.used

pub loop-j-preserved : goal.loop-j-preserved
loop-j-preserved g c =
    let children = g.G.Graph.children c.args.graph.now in
    let e = g.met.G.Graph.same_children _ _ c.loop-j.invariant.same c.args.row in
    let at = subst (λ (xs : List Row). slice_get xs c.loop-j.j ≡ Some c.child-child.result) e c.child-child.ensures.child in
    let q = c.child-child.result in
    let below : q.0 < length c.loop-j.marked = omega (arith, c.requires.below q (contains_at (g.G.Graph.children c.args.graph.now c.args.row) c.loop-j.j c.child-child.result at), c.loop-j.invariant.size) in
    let left = drop (c.loop-j.j + 1) (children c.args.row) in
    let pending = take c.loop-j.used c.loop-j.waiting in
    record {
      halfway = λ old root h.
          let before = subst (λ (xs : List Row). Halfway children root old c.loop-j.marked pending c.args.row xs) (drop_at (children c.args.row) c.loop-j.j q at) (c.loop-j.invariant.halfway old root h) in
          rw (c.visit-used.ensures.marked, c.visit-used.ensures.waiting) (visited children root old c.loop-j.marked pending c.args.row q left below before);
      size = omega arith;
      room = omega arith;
      used = c.visit-used.ensures.used;
      less = omega (arith, c.visit-used.ensures.less, c.loop-j.invariant.less);
      same = g.met.G.Graph.same_in_turn _ _ _ c.loop-j.invariant.same c.child-child.ensures.same;
    }

pub returns-clause-halfway : goal.returns-clause-halfway
returns-clause-halfway g c = λ old root h.
    let children = g.G.Graph.children c.args.graph.now in
    let xs = children c.args.row in
    let end : c.loop-j.j ≡ length xs = omega (arith, c.count-j-end.ensures.count) in
    let none : drop c.loop-j.j xs ≡ [] = ap (λ n. drop n xs) end ∙ drop-length xs in
    subst (λ (ys : List Row). Halfway children root old c.loop-j.marked (take c.loop-j.used c.loop-j.waiting) c.args.row ys) none (c.loop-j.invariant.halfway old root h)

pub returns-clause-used : goal.returns-clause-used
returns-clause-used g c = c.loop-j.invariant.used

pub returns-clause-less : goal.returns-clause-less
returns-clause-less g c = c.loop-j.invariant.less

pub returns-clause-same : goal.returns-clause-same
returns-clause-same g c = c.loop-j.invariant.same
