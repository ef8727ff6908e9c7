use Rattle.std.proofs.Common.{ℕ, Vec, Global}
use Rattle.rec_answers.proofs.Logged.{front_of_texts, at_err}
use Rattle.rec_answers.proofs.writing.write_parts.Goals as goal

pub returns-in_err-write_all-clause-front : goal.returns-in_err-write_all-clause-front
returns-in_err-write_all-clause-front g c =
    at_err c.from_residual.result
    (front_of_texts (λ (part : Vec ℕ Global). part.items) (g.O.Sink.taken c.args.out.now) (g.O.Sink.taken c.loop-part.out) (g.O.Sink.taken c.write_all.new.sink)
    c.args.parts.now c.loop-part.part-index c.part-item.result c.deref.result.now c.loop-part-test.true c.part-item.is c.deref.ensures.value c.loop-part.invariant.written c.in_err-write_all.ensures.front)
