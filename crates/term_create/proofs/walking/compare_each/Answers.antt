use Rattle.std.proofs.Common.{◌≡◌, ℕ, ◌+◌, false, ap, ◌∙◌, arith}
use Rattle.store_model.specs.declared.view.Call.{Call}
use Rattle.term_create.specs.Stage.{content, at_call, stage}
use Rattle.term_create.proofs.Whole.{same_joined}
use Rattle.term_create.proofs.Views.{on_call}
use Rattle.term_create.proofs.Staged.{compared_on, stage_end}
use Rattle.term_create.proofs.walking.compare_each.Goals as goal

pub loop-j-preserved : goal.loop-j-preserved
loop-j-preserved g c =
    let a = content c.args.asked.now in
    let d = c.args.walk in
    let v = c.args.seat.now.seat.me.0 in
    let more : c.loop-j.j + 3 ≡ c.loop-j.j + 1 + 2 = omega arith in
    record {
      at = c.if-not-compare_argument.ensures.at;
      same = same_joined c.loop-j.invariant.same c.if-not-compare_argument.ensures.same;
      view = on_call v c.loop-j.seat.seat.me.0 c.compare_argument.new.seat.seat.me.0 (stage a d.drawn d.from d.old c.args.at (c.loop-j.j + 2)) (stage a d.drawn d.from d.old c.args.at (c.loop-j.j + 3)) c.loop-j.invariant.view c.if-not-compare_argument.ensures.view
          ∙ ap (λ (m : ℕ). at_call v (stage a d.drawn d.from d.old c.args.at m)) more;
      cost = omega (arith, c.if-not-compare_argument.ensures.cost, c.loop-j.invariant.cost);
    }

pub returns-then-not-compare_argument : goal.returns-then-not-compare_argument
returns-then-not-compare_argument g c =
    let a = content c.args.asked.now in
    let d = c.args.walk in
    let i = c.loop-j.invariant in
    let e = c.if-not-compare_argument.ensures in
    let more = c.loop-j-test.true in
    record {
      at = e.at;
      same = same_joined i.same e.same;
      view = compared_on c.args.seat.now.seat.me.0 c.loop-j.seat.seat.me.0 c.compare_argument.new.seat.seat.me.0 a d.drawn d.from d.old c.args.at
          (stage a d.drawn d.from d.old c.args.at (c.loop-j.j + 2)) (stage a d.drawn d.from d.old c.args.at (c.loop-j.j + 3)) false i.view e.view;
      cost = omega (arith, e.cost, i.cost);
    }

pub returns : goal.returns
returns g c =
    let a = content c.args.asked.now in
    let d = c.args.walk in
    let v = c.args.seat.now.seat.me.0 in
    let i = c.loop-j.invariant in
    let past = c.loop-j-test.false in
    let within = c.loop-j.auto.j-end in
    let many = c.requires.many in
    record {
      at = i.at;
      same = i.same;
      view = i.view ∙ ap (λ (x : Call). at_call v x) (stage_end a d.drawn d.from d.old c.args.at (c.loop-j.j + 2) (omega arith));
      cost = omega (arith, i.cost);
    }
