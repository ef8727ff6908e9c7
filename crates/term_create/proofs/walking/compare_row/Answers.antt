use Rattle.std.proofs.Common.{arith, pred}
use Rattle.store_model.specs.declared.view.Call.TheVariants.{Finding}
use Rattle.term_create.specs.Stage.{content, stage}
use Rattle.term_create.proofs.Whole.{same_joined}
use Rattle.term_create.proofs.Staged.{compared_on}
use Rattle.term_create.proofs.walking.compare_row.Goals as goal

pub returns-then-not-compare_two : goal.returns-then-not-compare_two
returns-then-not-compare_two g c =
    let e = c.if-not-compare_two.ensures in
    record { at = e.at; same = e.same; view = e.view; cost = omega (arith, e.cost) }

pub returns : goal.returns
returns g c =
    let a = content c.args.asked.now in
    let d = c.args.walk in
    let e = c.if-not-compare_two.ensures in
    let f = c.compare_rest.ensures in
    record {
      at = f.at;
      same = same_joined e.same f.same;
      view = compared_on c.args.seat.now.seat.me.0 c.compare_two.new.seat.seat.me.0 c.compare_rest.new.seat.seat.me.0 a d.drawn d.from d.old c.args.at
          (stage a d.drawn d.from d.old c.args.at 2) (Finding a d.drawn (pred c.args.at)) c.compare_rest.result e.view f.view;
      cost = omega (arith, e.cost, f.cost);
    }
