use Rattle.rewrite_workers.proofs.Going.{worked_end}
use Rattle.rewrite_workers.proofs.worker.work.Goals as goal

pub returns-clause-worked : goal.returns-clause-worked
returns-clause-worked g c =
    let work = c.args.job.now.work in
    worked_end work.settings work.symbols.now work.plan.now.rules work.terms.now (g.T.Terms.store c.args.desk.now) (g.T.Terms.store c.work_through-share.new.desk) c.work_through-share.new.share
    c.work_through-share.result c.work_through-share.ensures.worked
