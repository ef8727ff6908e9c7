use Rattle.std.proofs.Common.{◌≡◌, refl, subst}
use Rattle.settings.specs.Words.{texts}
use Rattle.rec_answers.specs.Lines.{stop_status, stop_line, TookLine}
use Rattle.rec_top.proofs.Promised.{words_promised, answer_promised}
use Rattle.rec_top.proofs.top.ran.Goals as goal

pub returns-in-Err : goal.returns-in-Err
returns-in-Err g c =
    let e = c.stopped_before.ensures in
    words_promised (texts c.args.words.now) g.S.Source.left g.S.Source.faults c.args.source.now g.O.Sink.taken g.O.Sink.faults c.args.out.now c.args.out.now g.E.Sink.taken g.E.Sink.faults c.args.err.now c.stopped_before.new.err c.stopped_before.result
    c.in-Err.fault c.in-Err.ensures.settings refl
    (subst (λ stop. c.stopped_before.result.status ≡ stop_status stop) c.from.ensures e.status)
    (subst (λ stop. TookLine g.E.Sink.taken g.E.Sink.faults c.args.err.now c.stopped_before.new.err (stop_line stop)) c.from.ensures e.line) e.later e.workers e.chronicle

pub returns : goal.returns
returns g c =
    let a = c.answer_of-finished in
    let f = c.finish.ensures in
    answer_promised (texts c.args.words.now) g.S.Source.left g.S.Source.faults c.args.source.now g.O.Sink.taken g.O.Sink.faults c.args.out.now c.finish.new.out g.E.Sink.taken g.E.Sink.faults c.args.err.now c.finish.new.err c.finish.result
    a.new.source c.in-Ok.settings c.in-Ok.ensures.settings a.ensures.later a.ensures.unread
    a.result.answer a.result.chronicle a.result.log c.in-Ok.ensures.in_range a.ensures.made a.ensures.stopped a.ensures.unfailed a.ensures.accepted a.ensures.refused a.ensures.history a.ensures.log a.ensures.keys
    f.chronicle f.made f.stopped
