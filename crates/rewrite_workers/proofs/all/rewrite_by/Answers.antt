use Rattle.rewrite_workers.proofs.Outcome.{beside, at_end, at_fault}
use Rattle.rewrite_workers.proofs.all.rewrite_by.Goals as goal

pub returns-in-Ok-beside : goal.returns-in-Ok-beside
returns-in-Ok-beside g c =
    let work = c.args.work.now in
    let l = c.in-Ok-beside in
    beside g.T.Terms.store g.T.Terms.same work.settings work.plan.now work.symbols.now work.terms.now c.args.desks.now c.trace_by.new.desks c.in-Ok.traced l.lines l.ensures.list l.ensures.traces
    c.in-Ok.ensures

pub returns-in-Err-beside : goal.returns-in-Err-beside
returns-in-Err-beside g c =
    let work = c.args.work.now in
    at_end g.T.Terms.store g.T.Terms.same work.settings work.plan.now work.symbols.now work.terms.now c.args.desks.now c.trace_by.new.desks c.trace_by.result c.trace_by.ensures

pub returns-in-Err : goal.returns-in-Err
returns-in-Err g c =
    let work = c.args.work.now in
    at_fault g.T.Terms.store g.T.Terms.same work.settings work.plan.now work.symbols.now work.terms.now c.args.desks.now c.trace_by.new.desks c.in-Err.fault c.in-Err.ensures
