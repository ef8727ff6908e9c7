use Rattle.std.proofs.Common.{◌∙◌, ◌-◌, ◌++◌, ap, take, length, refl, sym, arith}
use Rattle.std.specs.Prelude.{replicate}
use Rattle.std.proofs.lemmas.Result.{on_ok_weaker}
use Rattle.innermost.specs.Trail.{node_place, place_before}
use Rattle.innermost.proofs.Trails.{base_is, left_argument, entered_firsts, entered_next}
use Rattle.innermost.proofs.NodePlaces.{over_some, leaf_first, leaf_order, leaf_way, leaf_split}
use Rattle.innermost.proofs.nodes.enter_node.Goals as goal

pub next_leaf-requires-clause-order : goal.next_leaf-requires-clause-order
next_leaf-requires-clause-order c =
    let r = c.requires in
    leaf_order r.plain.0 r.down.0 c.args.term.now r.no_variables r.plain.1 c.args.at r.node c.args.count r.count c.args.before c.args.down r.down.1 (omega (arith, c.if-count-gt0.false)) (omega (arith, c.if-at-eq0.false))

pub next_leaf-requires-clause-small : goal.next_leaf-requires-clause-small
next_leaf-requires-clause-small c = λ ks k e.
    let r = c.requires in
    let base = place_before c.args.term.now c.args.at in
    (leaf_way r.plain.0 r.down.0 c.args.term.now r.no_variables r.plain.1 c.args.at r.node c.args.count r.count c.args.before c.args.down r.down.1 (omega (arith, c.if-count-gt0.false)) (omega (arith, c.if-at-eq0.false)) ks k
    (sym (base_is r.trail.0 base c.args.trail.now r.trail.1) ∙ e)).0

pub returns-then-count-gt0-clause-trail : goal.returns-then-count-gt0-clause-trail
returns-then-count-gt0-clause-trail c = λ steps t.
    let r = c.requires in
    let base = place_before c.args.term.now c.args.at in
    let next = node_place c.args.term.now c.args.at in
    let e = c.leave_argument.ensures in
    left_argument steps base next c.args.trail.now c.leave_argument.new.trail t e.cursor e.marks e.rest e.same e.high
    (over_some r.plain.0 r.down.0 c.args.term.now r.no_variables r.plain.1 c.args.at r.node c.args.count r.count c.args.before c.args.down r.down.1 (omega (arith, c.if-count-gt0.true)) c.leave_argument.new.trail.way.items
    (e.rest ∙ ap (λ xs. take (length xs - 1) xs) (base_is steps base c.args.trail.now t)))

pub returns-then-at-eq0-clause-trail : goal.returns-then-at-eq0-clause-trail
returns-then-at-eq0-clause-trail c =
    on_ok_weaker c.push_firsts.result (λ e steps t.
    let r = c.requires in
    let base = place_before c.args.term.now c.args.at in
    let next = node_place c.args.term.now c.args.at in
    entered_firsts steps base next c.args.trail.now _ t refl refl (replicate c.args.down 1) e refl
    (leaf_first r.plain.0 r.down.0 c.args.term.now r.no_variables r.plain.1 c.args.at r.node c.args.count r.count c.args.before c.args.down r.down.1 (omega (arith, c.if-at-eq0.true)) c.push_firsts.new.way.items
    (e ∙ ap (λ xs. xs ++ replicate c.args.down 1) (base_is steps base c.args.trail.now t))))
    c.push_firsts.ensures

pub returns-else-at-eq0-clause-trail : goal.returns-else-at-eq0-clause-trail
returns-else-at-eq0-clause-trail c =
    on_ok_weaker c.next_leaf.result (λ w steps t.
    let r = c.requires in
    let e = c.next_leaf.ensures in
    let base = place_before c.args.term.now c.args.at in
    let next = node_place c.args.term.now c.args.at in
    let q = leaf_split r.plain.0 r.down.0 c.args.term.now r.no_variables r.plain.1 c.args.at r.node c.args.count r.count c.args.before c.args.down r.down.1 (omega (arith, c.if-count-gt0.false)) (omega (arith, c.if-at-eq0.false)) in
    let old = base_is steps base c.args.trail.now t ∙ q.2 in
    let new = w q.0 q.1 old in
    entered_next steps base next c.args.trail.now c.next_leaf.new.trail t e.cursor e.marks q.0 (replicate (c.args.down - c.args.before - 1) 1) q.1 old new e.same e.high
    (new ∙ sym (leaf_way r.plain.0 r.down.0 c.args.term.now r.no_variables r.plain.1 c.args.at r.node c.args.count r.count c.args.before c.args.down r.down.1 (omega (arith, c.if-count-gt0.false)) (omega (arith, c.if-at-eq0.false)) q.0 q.1 q.2).1))
    c.next_leaf.ensures.way
