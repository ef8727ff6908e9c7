use Rattle.std.proofs.Common.{ℕ, Vec, Global}
use Rattle.rec_top.proofs.Sourcing.{read_answers, unread_answers}
use Rattle.rec_top.proofs.answering.answer_read.Goals as goal

pub returns-in-Ok : goal.returns-in-Ok
returns-in-Ok g c =
    let i = c.input_of in
    let e = c.in-Ok.ensures in
    let f = c.output_for in
    read_answers c.args.settings.now g.S.Source.left g.S.Source.faults c.args.source.now i.new.source c.requires.reads i.ensures.later c.limit_of.result i.result c.in-Ok.input (λ (v : Vec ℕ Global). v.items) c.deref.result.now
    c.limit_of.ensures c.in-Ok.is c.deref.ensures.value e.whole i.ensures.unfailed e.read e.refused f.result.answer f.result.chronicle f.result.log f.ensures

pub returns-in-Err : goal.returns-in-Err
returns-in-Err g c =
    let i = c.input_of in
    let e = c.in-Err.ensures in
    let f = c.alone in
    unread_answers c.args.settings.now g.S.Source.left g.S.Source.faults c.args.source.now i.new.source c.requires.reads i.ensures.later c.limit_of.result i.result c.in-Err.stop
    c.limit_of.ensures c.in-Err.is e.stopped i.ensures.unfailed e.read e.refused f.result.answer f.result.chronicle f.result.log f.ensures.answer f.ensures.chronicle f.ensures.log
