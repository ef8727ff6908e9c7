use Rattle.rec_answers.proofs.Inputs.{reads_unless}
use Rattle.rec_top.proofs.Sourcing.{drill_answers}
use Rattle.rec_top.proofs.answering.answer_of.Goals as goal

pub returns-in-Drill : goal.returns-in-Drill
returns-in-Drill g c =
    let f = c.drilled in
    drill_answers c.args.settings.now g.S.Source.left g.S.Source.faults c.args.source.now f.result.answer f.result.chronicle f.result.log c.requires.in_range c.in-Drill.is f.ensures

pub answer_read-requires-clause-reads : goal.answer_read-requires-clause-reads
answer_read-requires-clause-reads g c κs below = reads_unless c.args.settings.now.command c.in_default.not-Drill

pub returns-in_default : goal.returns-in_default
returns-in_default g c = c.answer_read.ensures
