use Rattle.std.proofs.Common.{◌∙◌, sym}
use Rattle.log_check.proofs.Rising.{rises_at, first_fall_at}
use Rattle.log_check.proofs.keys.first_fall.Goals as goal

pub returns-then-breaks_at : goal.returns-then-breaks_at
returns-then-breaks_at c =
    let d = c.index-noted-i.result in
    first_fall_at c.args.noted.now c.loop-i.i d c.loop-i-test.true c.loop-i.invariant (sym (c.breaks_at.ensures d) ∙ c.if-breaks_at.true)

pub loop-i-preserved : goal.loop-i-preserved
loop-i-preserved c =
    rises_at c.args.noted.now c.loop-i.i c.loop-i-test.true c.requires c.loop-i.invariant (λ d. sym (c.breaks_at.ensures d) ∙ c.if-breaks_at.false)
