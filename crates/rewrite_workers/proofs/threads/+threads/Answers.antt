use Rattle.std.proofs.Common.{length, subst, All}
use Rattle.std.proofs.lemmas.List.Elements.{All-head, All-rest}
use Rattle.rewrite_workers.specs.Desks.{IsReady}
use Rattle.worker_crew.specs.Crews.{IsFresh}
use Rattle.rewrite_workers.proofs.threads.+threads.Goals as goal

pub work_all-work_both-requires-clause-share : goal.work_all-work_both-requires-clause-share
work_all-work_both-requires-clause-share g t c κs within =
    let P = IsFresh c.args.job.now.draws.now.shared.table_id (length c.args.job.now.work.terms.now) in
    let cut = c.in-Some-split_first_mut in
    All-head P cut.share.now cut.shares.now (subst (All P) cut.ensures.cases.0 c.requires.fresh)

pub work_all-work_both-requires-clause-desks : goal.work_all-work_both-requires-clause-desks
work_all-work_both-requires-clause-desks g t c κs within =
    let cut = c.in-Some in
    All-rest (λ d. IsReady c.args.job.now.work.settings c.args.job.now.work.plan.now (g.T.Terms.store d)) cut.desk.now cut.desks.now c.args.desks.now cut.ensures.cases.0 c.requires.ready

pub work_all-work_both-requires-clause-shares : goal.work_all-work_both-requires-clause-shares
work_all-work_both-requires-clause-shares g t c κs within =
    let P = IsFresh c.args.job.now.draws.now.shared.table_id (length c.args.job.now.work.terms.now) in
    let cut = c.in-Some-split_first_mut in
    All-rest P cut.share.now cut.shares.now c.args.shares.now cut.ensures.cases.0 c.requires.fresh
