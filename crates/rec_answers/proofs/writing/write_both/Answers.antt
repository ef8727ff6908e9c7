use Rattle.rec_answers.proofs.Logged.{front_behind}
use Rattle.rec_answers.proofs.writing.write_both.Goals as goal

pub returns-in-Some-clause-front : goal.returns-in-Some-clause-front
returns-in-Some-clause-front g c =
    front_behind c.write_parts.result (g.O.Sink.taken c.args.out.now) (g.O.Sink.taken c.write_all.new.sink) (g.O.Sink.taken c.write_parts.new.out) c.args.output.now _
    c.args.log.now c.in-Some.log c.in_ok-write_all.ensures.whole c.in-Some.is c.parts.ensures c.write_parts.ensures.front
