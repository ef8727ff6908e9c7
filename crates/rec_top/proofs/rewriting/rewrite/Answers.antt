use Rattle.rec_top.proofs.Working.{nothing_worked, spec_worked}
use Rattle.rec_top.proofs.rewriting.rewrite.Goals as goal

pub returns-in-Err : goal.returns-in-Err
returns-in-Err g c =
    let e = c.stopped.ensures in
    nothing_worked c.args.settings.now c.args.spec c.stopped.result.lines c.stopped.result.chronicle c.stopped.result.log e.lines e.chronicle e.log

pub returns : goal.returns
returns g c =
    let e = c.rewrite_shared-lines.ensures in
    spec_worked c.args.settings.now c.args.spec c.in-Ok.plan c.deref.result.now c.in-Ok.ensures c.deref.ensures.value c.rewrite_shared-lines.result.chronicle c.rewrite_shared-lines.result.log
    e.legal e.rises e.collects e.log e.keys c.rewrite_shared-lines.result.lines c.lines_or_stop.result c.lines_or_stop.ensures e.lines e.traces e.workers e.each e.built e.full e.few e.worn e.front
