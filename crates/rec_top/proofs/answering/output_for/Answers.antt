use Rattle.rec_answers.proofs.Inputs.{alone_unless}
use Rattle.rec_top.proofs.Sourcing.{rewrite_answers, outermost_answers, alone_answers}
use Rattle.rec_top.proofs.answering.output_for.Goals as goal

pub returns-in-Rewrite : goal.returns-in-Rewrite
returns-in-Rewrite g c =
    let f = c.rewritten in
    rewrite_answers c.conditions_of.result c.args.settings.now c.args.input.now f.result.answer f.result.chronicle f.result.log c.conditions_of.ensures c.requires.limit c.in-Rewrite.is f.ensures

pub returns-in-Outermost : goal.returns-in-Outermost
returns-in-Outermost g c =
    let f = c.rewritten-in-Outermost in
    outermost_answers c.args.settings.now c.args.input.now f.result.answer f.result.chronicle f.result.log c.requires.limit c.in-Outermost.is f.ensures

pub answer_alone-requires-clause-alone : goal.answer_alone-requires-clause-alone
answer_alone-requires-clause-alone g c =
    let d = c.in_default in
    alone_unless c.args.settings.now.command d.not-Rewrite d.not-Drill d.not-Outermost

pub returns-in_default : goal.returns-in_default
returns-in_default g c =
    let d = c.in_default in
    let f = c.alone in
    let a = c.answer_alone.ensures in
    alone_answers c.args.settings.now c.args.input.now c.answer_alone.result f.result.answer f.result.chronicle f.result.log f.ensures.answer f.ensures.chronicle f.ensures.log
    (alone_unless c.args.settings.now.command d.not-Rewrite d.not-Drill d.not-Outermost) a.made a.stopped a.accepted a.refused
