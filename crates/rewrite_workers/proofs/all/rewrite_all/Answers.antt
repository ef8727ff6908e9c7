use Rattle.rewrite_workers.proofs.Unbegun.{unbegun}
use Rattle.rewrite_workers.proofs.all.rewrite_all.Goals as goal

pub returns-in-Err-clause-stopped : goal.returns-in-Err-clause-stopped
returns-in-Err-clause-stopped g c =
    let work = c.args.work.now in unbegun g.T.Terms.store work.settings work.plan.now.rules work.terms.now c.args.desks.now

pub returns-in-Ok-clause-lines : goal.returns-in-Ok-clause-lines
returns-in-Ok-clause-lines g c = c.rewrite_by.ensures.lines

pub returns-in-Ok-clause-traces : goal.returns-in-Ok-clause-traces
returns-in-Ok-clause-traces g c = c.rewrite_by.ensures.traces

pub returns-in-Ok-clause-workers : goal.returns-in-Ok-clause-workers
returns-in-Ok-clause-workers g c = c.rewrite_by.ensures.workers

pub returns-in-Ok-clause-built : goal.returns-in-Ok-clause-built
returns-in-Ok-clause-built g c = c.rewrite_by.ensures.built

pub returns-in-Ok-clause-no_refusals : goal.returns-in-Ok-clause-no_refusals
returns-in-Ok-clause-no_refusals g c = c.rewrite_by.ensures.no_refusals

pub returns-in-Ok-clause-stopped : goal.returns-in-Ok-clause-stopped
returns-in-Ok-clause-stopped g c = c.rewrite_by.ensures.stopped

pub returns-in-Ok-clause-ready : goal.returns-in-Ok-clause-ready
returns-in-Ok-clause-ready g c = c.rewrite_by.ensures.leaves.ready

pub returns-in-Ok-clause-kept : goal.returns-in-Ok-clause-kept
returns-in-Ok-clause-kept g c = c.rewrite_by.ensures.leaves.kept

pub returns-in-Ok-clause-same : goal.returns-in-Ok-clause-same
returns-in-Ok-clause-same g c = c.rewrite_by.ensures.leaves.same_desks
