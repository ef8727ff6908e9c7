use Rattle.std.proofs.Common.{length, ap, sym, ◌∙◌, arith, ◌+◌, ℕ}
use Rattle.std.proofs.lemmas.List.{length_push}
use Rattle.std.proofs.lemmas.Iterator.Adapters.{YieldsList-from_vec}
use Rattle.std.proofs.lemmas.Iterator.Consumers.{YieldsList-turn}
use Rattle.work_desks.specs.NewDesks.{IsBackAt}
use Rattle.work_desks.proofs.Making.{got_at, one_more}
use Rattle.work_desks.proofs.Logging.{entries_of_desk, one_caller_more}
use Rattle.work_desks.proofs.logs.parts_of.Goals as goal

pub push_reserved-requires : goal.push_reserved-requires
push_reserved-requires g c =
    let b = c.into_iter-desk-iterator.ensures.into_iter_gives in
    let t = YieldsList-turn (YieldsList-from_vec {s = c.into_iter-desk-iterator.result} c.args.desks.items b.0 (b.1 ∙ c.args.desks.ok.0)) c.loop-desk.yielded c.loop-desk.desk-iterator c.loop-desk.yielded_by c.next.result c.next.new.self c.in-Some.desk c.in-Some.is c.next.ensures.steps in
    let left = t.0 in
    let given = c.args.desks.ok.0 in
    let wide = c.requires.wide in
    let len = c.loop-desk.invariant.len in
    let capacity = c.loop-desk.invariant.capacity in
    omega (arith, left, given, wide, len, capacity)

pub loop-desk-preserved : goal.loop-desk-preserved
loop-desk-preserved g c =
    let b = c.into_iter-desk-iterator.ensures.into_iter_gives in
    let t = YieldsList-turn (YieldsList-from_vec {s = c.into_iter-desk-iterator.result} c.args.desks.items b.0 (b.1 ∙ c.args.desks.ok.0)) c.loop-desk.yielded c.loop-desk.desk-iterator c.loop-desk.yielded_by c.next.result c.next.new.self c.in-Some.desk c.in-Some.is c.next.ensures.steps in
    let k = length c.loop-desk.yielded in
    let pushed = c.push_reserved.ensures in
    let more = length_push c.loop-desk.yielded c.in-Some.desk in
    let loop = c.loop-desk.invariant in
    record {
      back = one_more (IsBackAt c.args.desks.items) c.loop-desk.passes.items c.push_reserved.new.self.items c.into_parts-pass.result.0 k _ pushed.items more loop.back
          (record { desk = c.in-Some.desk; at = got_at c.args.desks.items k c.in-Some.desk t.0 t.1; back = c.into_parts-pass.ensures.back });
      len = pushed.len ∙ ap (λ (n : ℕ). n + 1) loop.len ∙ sym more;
      capacity = pushed.capacity ∙ loop.capacity;
      counted = ap (λ (n : ℕ). n + 1) loop.counted ∙ sym more;
      log = one_caller_more c.loop-desk.whole c.with_caller-whole.result c.args.log c.loop-desk.yielded c.in-Some.desk c.loop-desk.caller loop.counted loop.log
          (c.with_caller-whole.ensures (entries_of_desk c.in-Some.desk) c.into_parts-pass.ensures.told);
    }
