use Rattle.std.proofs.lemmas.Result.{err_from_is_err_and}
use Rattle.rewrite_workers.proofs.Going.{unbegun}
use Rattle.rewrite_workers.proofs.worker.work_through.Goals as goal

pub returns-in_err-memo-clause-worked : goal.returns-in_err-memo-clause-worked
returns-in_err-memo-clause-worked g c =
    let work = c.args.job.now.work in
    let p = err_from_is_err_and c.from_residual.result c.from_residual.ensures.1 in
    rw (p.1, p.2) (unbegun c.args.job.now.draws.now.shared.table_id work.settings work.symbols.now work.plan.now.rules work.terms.now (g.T.Terms.store c.args.desk.now) c.args.share.now c.requires.fresh).1

pub returns-in_err-memo-clause-seat : goal.returns-in_err-memo-clause-seat
returns-in_err-memo-clause-seat g c =
    let work = c.args.job.now.work in
    (unbegun c.args.job.now.draws.now.shared.table_id work.settings work.symbols.now work.plan.now.rules work.terms.now (g.T.Terms.store c.args.desk.now) c.args.share.now c.requires.fresh).0

pub returns-in_err-memo-clause-same : goal.returns-in_err-memo-clause-same
returns-in_err-memo-clause-same g c = g.met.T.Terms.same_as_itself c.args.desk.now
