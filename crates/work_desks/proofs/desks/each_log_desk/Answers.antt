use Rattle.std.proofs.Common.{length, ap, sym, ◌∙◌, arith, ◌+◌, ℕ}
use Rattle.std.proofs.lemmas.List.{length_push}
use Rattle.std.proofs.lemmas.Iterator.Adapters.{YieldsList-from_vec}
use Rattle.std.proofs.lemmas.Iterator.Consumers.{YieldsList-turn}
use Rattle.work_desks.specs.NewDesks.{IsNewDesk}
use Rattle.node_rows.specs.declared.view.NodeView.{NodeView}
use Rattle.shared_desk.specs.Telling.{MayHaveDesk}
use Rattle.work_desks.proofs.Making.{all_at, got_at, one_more}
use Rattle.work_desks.proofs.desks.each_log_desk.Goals as goal

pub log_desk_at-requires-clause-may : goal.log_desk_at-requires-clause-may
log_desk_at-requires-clause-may g c =
    let b = c.into_iter-pass-iterator.ensures.into_iter_gives in
    let t = YieldsList-turn (YieldsList-from_vec {s = c.into_iter-pass-iterator.result} c.args.passes.items b.0 (b.1 ∙ c.args.passes.ok.0)) c.loop-pass.yielded c.loop-pass.pass-iterator c.loop-pass.yielded_by c.next.result c.next.new.self c.in-Some.pass c.in-Some.is c.next.ensures.steps in
    all_at (MayHaveDesk c.args.store.now) c.args.passes.items (length c.loop-pass.yielded) c.in-Some.pass c.requires.may t.0 t.1

pub log_desk_at-requires-clause-unnoted : goal.log_desk_at-requires-clause-unnoted
log_desk_at-requires-clause-unnoted g c =
    let b = c.into_iter-pass-iterator.ensures.into_iter_gives in
    let t = YieldsList-turn (YieldsList-from_vec {s = c.into_iter-pass-iterator.result} c.args.passes.items b.0 (b.1 ∙ c.args.passes.ok.0)) c.loop-pass.yielded c.loop-pass.pass-iterator c.loop-pass.yielded_by c.next.result c.next.new.self c.in-Some.pass c.in-Some.is c.next.ensures.steps in
    let k = length c.loop-pass.yielded in
    let new = c.requires.new.each k c.in-Some.pass (got_at c.args.passes.items k c.in-Some.pass t.0 t.1) in
    ap (λ (v : NodeView). v.store.entries) new.view

pub push_reserved-requires : goal.push_reserved-requires
push_reserved-requires g c =
    let b = c.into_iter-pass-iterator.ensures.into_iter_gives in
    let t = YieldsList-turn (YieldsList-from_vec {s = c.into_iter-pass-iterator.result} c.args.passes.items b.0 (b.1 ∙ c.args.passes.ok.0)) c.loop-pass.yielded c.loop-pass.pass-iterator c.loop-pass.yielded_by c.next.result c.next.new.self c.in-Some.pass c.in-Some.is c.next.ensures.steps in
    let left = t.0 in
    let given = c.args.passes.ok.0 in
    let len = c.loop-pass.invariant.1 in
    let capacity = c.loop-pass.invariant.2 in
    omega (arith, left, given, len, capacity)

pub loop-pass-preserved : goal.loop-pass-preserved
loop-pass-preserved g c =
    let b = c.into_iter-pass-iterator.ensures.into_iter_gives in
    let t = YieldsList-turn (YieldsList-from_vec {s = c.into_iter-pass-iterator.result} c.args.passes.items b.0 (b.1 ∙ c.args.passes.ok.0)) c.loop-pass.yielded c.loop-pass.pass-iterator c.loop-pass.yielded_by c.next.result c.next.new.self c.in-Some.pass c.in-Some.is c.next.ensures.steps in
    let k = length c.loop-pass.yielded in
    let new = c.requires.new.each k c.in-Some.pass (got_at c.args.passes.items k c.in-Some.pass t.0 t.1) in
    let pushed = c.push_reserved.ensures in
    let more = length_push c.loop-pass.yielded c.in-Some.pass in
    let capacity = pushed.capacity in
    let wide = c.loop-pass.invariant.2 in (
      one_more (IsNewDesk c.args.store.now) c.loop-pass.desks.items c.push_reserved.new.self.items c.in_ok-desk.desk k _ pushed.items more c.loop-pass.invariant.0 (c.in_ok-desk.ensures k new),
      pushed.len ∙ ap (λ (n : ℕ). n + 1) c.loop-pass.invariant.1 ∙ sym more,
      omega (arith, capacity, wide),
    )
