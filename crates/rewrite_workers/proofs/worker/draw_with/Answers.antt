use Rattle.std.proofs.Common.{◌≡◌, None, sym, subst}
use Rattle.term_model.specs.declared.Row.{Row}
use Rattle.std.proofs.lemmas.Result.{err_from_is_err_and}
use Rattle.rewrite_workers.proofs.Going.{unbegun}
use Rattle.rewrite_workers.proofs.Recalling.{recalls_nothing}
use Rattle.rewrite_workers.proofs.worker.draw_with.Goals as goal

pub returns-in_err-rewriter-clause-worked : goal.returns-in_err-rewriter-clause-worked
returns-in_err-rewriter-clause-worked g c =
    let work = c.args.job.now.work in
    let p = err_from_is_err_and c.from_residual.result c.from_residual.ensures.1 in
    rw (p.1, p.2) (unbegun c.args.job.now.draws.now.shared.table_id work.settings work.symbols.now work.plan.now.rules work.terms.now (g.T.Terms.store c.args.desk.now) c.args.share.now c.requires.fresh).1

pub returns-in_err-rewriter-clause-seat : goal.returns-in_err-rewriter-clause-seat
returns-in_err-rewriter-clause-seat g c =
    let work = c.args.job.now.work in
    (unbegun c.args.job.now.draws.now.shared.table_id work.settings work.symbols.now work.plan.now.rules work.terms.now (g.T.Terms.store c.args.desk.now) c.args.share.now c.requires.fresh).0

pub returns-in_err-rewriter-clause-same : goal.returns-in_err-rewriter-clause-same
returns-in_err-rewriter-clause-same g c = g.met.T.Terms.same_as_itself c.args.desk.now

pub draw_terms-requires-clause-rewriter : goal.draw_terms-requires-clause-rewriter
draw_terms-requires-clause-rewriter g c κs below = c.in_ok-rewriter.ensures

pub draw_terms-requires-clause-recalls : goal.draw_terms-requires-clause-recalls
draw_terms-requires-clause-recalls g c κs below =
    let work = c.args.job.now.work in
    let memory = c.new-memory in
    recalls_nothing work.settings work.plan.now.rules (g.T.Terms.store c.args.desk.now) (g.M.Memo.map memory.result.memo) memory.result.epoch
    (subst (λ m. (row : Row) → g.M.Memo.map m row ≡ None) (sym memory.ensures.memo) c.requires.memo) memory.ensures.epoch
