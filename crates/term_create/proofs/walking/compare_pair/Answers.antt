use Rattle.std.proofs.Common.{arith, pred, subst}
use Rattle.std.specs.Prelude.{◌≡◌, MatchBool}
use Rattle.store_model.specs.declared.view.Call.{Call}
use Rattle.store_model.specs.declared.view.Call.TheVariants.{Finding}
use Rattle.term_create.specs.Stage.{IsOther, at_call, content, stage}
use Rattle.term_create.proofs.Whole.{same_joined}
use Rattle.term_create.proofs.Staged.{compared_on, stage_end}
use Rattle.term_create.proofs.walking.compare_pair.Goals as goal

pub returns-then-not-compare_argument : goal.returns-then-not-compare_argument
returns-then-not-compare_argument g c =
    let e = c.if-not-compare_argument.ensures in
    record { at = e.at; same = e.same; view = e.view; cost = omega (arith, e.cost) }

pub returns : goal.returns
returns g c =
    let a = content c.args.asked.now in
    let d = c.args.walk in
    let e = c.if-not-compare_argument.ensures in
    let f = c.compare_argument-2.ensures in
    let u = c.compare_argument.new.seat.seat.me.0 in
    let w = c.compare_argument-2.new.seat.seat.me.0 in
    let r = c.compare_argument-2.result in
    let many = c.requires.many in
    let two = c.requires.two in
    let last = subst (λ (y : Call). MatchBool r (w ≡ at_call u y) (IsOther u w a d.drawn d.from d.old c.args.at)) (stage_end a d.drawn d.from d.old c.args.at 4 (omega arith)) f.view in
    record {
      at = f.at;
      same = same_joined e.same f.same;
      view = compared_on c.args.seat.now.seat.me.0 u w a d.drawn d.from d.old c.args.at
          (stage a d.drawn d.from d.old c.args.at 3) (Finding a d.drawn (pred c.args.at)) r e.view last;
      cost = omega (arith, e.cost, f.cost);
    }
