use Rattle.std.proofs.Common.{◌∙◌}
use Rattle.rec_top.proofs.Commanding.{none_drilled, lines_drilled, lines_undrilled}
use Rattle.rec_top.proofs.drilling.drilled.Goals as goal

pub returns-in-Err : goal.returns-in-Err
returns-in-Err g c =
    let e = c.alone.ensures in
    none_drilled c.args.settings.now c.alone.result.answer c.alone.result.chronicle c.alone.result.log e.answer e.chronicle e.log

pub returns-in-Ok-lines : goal.returns-in-Ok-lines
returns-in-Ok-lines g c =
    let w = c.lines_for-lines in
    let t = c.told_counts-answer in
    lines_drilled c.args.settings.now c.deref.result.now (c.deref.ensures.value ∙ c.in-Ok.ensures) w.result.lines w.result.chronicle w.result.log w.ensures c.in-Ok-lines.lines t.result c.is_some.result c.in-Ok-lines.is
    t.ensures.made t.ensures.workers t.ensures.stopped c.is_some.ensures t.ensures.logged

pub returns : goal.returns
returns g c =
    let w = c.lines_for-lines in
    lines_undrilled c.args.settings.now c.deref.result.now (c.deref.ensures.value ∙ c.in-Ok.ensures) w.result.lines w.result.chronicle w.result.log w.ensures c.in-Err-lines.stop c.stop_of_drill.result c.in-Err-lines.is c.stop_of_drill.ensures
