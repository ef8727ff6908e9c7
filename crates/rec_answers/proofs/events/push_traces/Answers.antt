use Rattle.std.proofs.Common.{arith}
use Rattle.rec_answers.proofs.Pushing.{pushed}
use Rattle.rec_answers.proofs.events.push_traces.Goals as goal

pub terms-preserved : goal.terms-preserved
terms-preserved c = (
  omega arith,
  pushed c.args.text.now.items c.terms.text.items c.push_trace_of.new.text.items c.args.lines.now c.args.traces.now c.terms.number c.index-lines-number.result c.index-traces-number.result c.deref.result.now
      (omega arith) c.requires.one_each c.index-lines-number.is c.index-traces-number.is c.deref.ensures.value c.terms.invariant.1 c.in_ok-push_trace_of.ensures,
)
