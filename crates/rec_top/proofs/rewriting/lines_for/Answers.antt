use Rattle.rec_top.proofs.Working.{input_worked, input_unspelled}
use Rattle.rec_top.proofs.rewriting.lines_for.Goals as goal

pub returns-in-Ok : goal.returns-in-Ok
returns-in-Ok g c =
    let e = c.in-Ok.ensures in
    input_worked c.args.conditions c.args.settings.now c.args.input.now c.in-Ok.spec e.made e.meets e.refused c.rewrite.result.lines c.rewrite.result.chronicle c.rewrite.result.log c.rewrite.ensures

pub returns-in-Err : goal.returns-in-Err
returns-in-Err g c =
    let e = c.in-Err.ensures in
    let s = c.stopped.ensures in
    input_unspelled c.args.conditions c.args.settings.now c.args.input.now c.in-Err.stop e.stopped e.accepted e.refused c.stopped.result.lines c.stopped.result.chronicle c.stopped.result.log s.lines s.chronicle s.log
