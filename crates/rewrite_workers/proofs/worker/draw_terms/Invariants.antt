use Rattle.std.proofs.Common.{◌-◌, length}
use Rattle.rewrite_workers.specs.Desks.{IsReady}
use Rattle.rewrite_workers.specs.Working.{IsRewriterOf, Recalls}
use Rattle.worker_crew.specs.Crews.{drawn_of}
use Rattle.rewrite_workers.proofs.Going.{Going, next_of}
use Rattle.rewrite_workers.proofs.worker.draw_terms.Given as goal

abbrev pub invariant-terms : goal.invariant-terms
invariant-terms g l =
    let store = g.T.Terms.store in
    let work = l.job.work in
    Going l.job.draws.now.shared.table_id work.settings work.symbols.now work.plan.now.rules work.terms.now (store l.fn.desk) (store l.desk) l.fn.share l.share
    × IsReady work.settings work.plan.now (store l.desk)
    × IsRewriterOf work.settings work.plan.now l.rewriter
    × g.T.Terms.same l.fn.desk l.desk
    × Recalls work.settings work.plan.now.rules (store l.desk) (g.M.Memo.map l.memory.memo) l.memory.epoch

abbrev pub decreases-terms : goal.decreases-terms
decreases-terms g l = length l.job.work.terms.now - next_of (drawn_of l.share)
