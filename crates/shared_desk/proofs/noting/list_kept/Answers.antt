use Rattle.std.proofs.Common.{◌∙◌, sym, ap, arith}
use Rattle.node_rows.specs.Rows.{names}
use Rattle.node_rows.specs.Crowding.{kept_in}
use Rattle.shared_desk.proofs.Logging.{nothing_below, all_below}
use Rattle.shared_desk.proofs.noting.list_kept.Goals as goal

pub loop-number-init : goal.loop-number-init
loop-number-init g c = λ ascends. ap names c.clear.ensures.items ∙ sym (nothing_below (kept_in (g.S.SharedPass.view c.args.pass.now).entries))

pub loop-number-preserved : goal.loop-number-preserved
loop-number-preserved g c = λ ascends. c.in_ok-list_one.ensures ascends (c.loop-number.invariant ascends)

pub returns : goal.returns
returns g c = λ ascends below_rows.
    let past = c.loop-number-test.false in
    let end = c.rows-number-end.ensures in
    c.loop-number.invariant ascends
    ∙ all_below c.loop-number.number (kept_in (g.S.SharedPass.view c.args.pass.now).entries) (λ r k. let lt = below_rows r k in omega (arith, lt, past, end))
