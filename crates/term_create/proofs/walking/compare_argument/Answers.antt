use Rattle.std.proofs.Common.{◌≡◌, ℕ, ◌+◌, subst, arith}
use Rattle.std.specs.Prelude.{MatchBool}
use Rattle.term_create.specs.Stage.{IsOther, content, at_call, stage}
use Rattle.term_create.proofs.walking.compare_argument.Goals as goal

pub returns : goal.returns
returns g c =
    let a = content c.args.asked.now in
    let d = c.args.walk in
    let v = c.args.seat.now.seat.me.0 in
    let w = c.compare_word.new.seat.seat.me.0 in
    let e = c.compare_word.ensures in
    let more : c.args.j + 2 + 1 ≡ c.args.j + 3 = omega arith in
    record {
      at = e.at;
      same = e.same;
      view = subst (λ (m : ℕ). MatchBool c.compare_word.result (w ≡ at_call v (stage a d.drawn d.from d.old c.args.at m)) (IsOther v w a d.drawn d.from d.old c.args.at)) more e.view;
      cost = e.cost;
    }
