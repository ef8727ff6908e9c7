use Rattle.rec_top.proofs.Commanding.{one_each_made, lines_rewritten, none_rewritten}
use Rattle.rec_top.proofs.rewriting.rewritten.Goals as goal

pub told_lines-answer-requires : goal.told_lines-answer-requires
told_lines-answer-requires g c =
    let w = c.lines_for-lines in
    record { one_each = one_each_made c.args.conditions c.args.settings.now c.args.input.now w.result.lines w.result.chronicle w.result.log c.in-Ok.lines c.in-Ok.is w.ensures }

pub returns-in-Ok : goal.returns-in-Ok
returns-in-Ok g c =
    let w = c.lines_for-lines in
    let t = c.told_lines-answer in
    lines_rewritten c.args.conditions c.args.settings.now c.args.input.now w.result.lines w.result.chronicle w.result.log c.in-Ok.lines t.result c.is_some.result c.in-Ok.is w.ensures
    t.ensures.made t.ensures.workers t.ensures.stopped c.is_some.ensures t.ensures.logged

pub returns-in-Err : goal.returns-in-Err
returns-in-Err g c =
    let w = c.lines_for-lines in
    none_rewritten c.args.conditions c.args.settings.now c.args.input.now w.result.lines w.result.chronicle w.result.log c.in-Err.stop c.in-Err.is w.ensures
