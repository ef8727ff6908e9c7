use Rattle.std.proofs.Common.{arith}
use Rattle.term_create.specs.Stage.{content, stage}
use Rattle.term_create.proofs.Whole.{same_joined}
use Rattle.term_create.proofs.Staged.{compared_on}
use Rattle.term_create.proofs.walking.compare_two.Goals as goal

pub returns-then-not-compare_word : goal.returns-then-not-compare_word
returns-then-not-compare_word g c =
    let e = c.if-not-compare_word.ensures in
    record { at = e.at; same = e.same; view = e.view; cost = omega (arith, e.cost) }

pub returns : goal.returns
returns g c =
    let a = content c.args.asked.now in
    let d = c.args.walk in
    let e = c.if-not-compare_word.ensures in
    let f = c.compare_word-2.ensures in
    record {
      at = f.at;
      same = same_joined e.same f.same;
      view = compared_on c.args.seat.now.seat.me.0 c.compare_word.new.seat.seat.me.0 c.compare_word-2.new.seat.seat.me.0 a d.drawn d.from d.old c.args.at
          (stage a d.drawn d.from d.old c.args.at 1) (stage a d.drawn d.from d.old c.args.at 2) c.compare_word-2.result e.view f.view;
      cost = omega (arith, e.cost, f.cost);
    }
