use Rattle.std.proofs.Common.{◌∷◌, ◌++◌, [], ap, sym, subst}
use Rattle.std.specs.Prelude.{OnOk, is_ok, Result}
use Rattle.line_ends.specs.declared.stop.LineStop.{LineStop}
use Rattle.rewrite_workers.specs.Ends.{Ended}
use Rattle.rewrite_workers.proofs.Ending.{all_front}
use Rattle.work_order.specs.Works.{term_at}
use Rattle.work_order.specs.Lined.{told_of}
use Rattle.rewrite_workers.specs.Worked.{AddsLine}
use Rattle.worker_crew.specs.declared.share.Numbered.{Numbered}
use Rattle.worker_crew.specs.declared.share.Share.{Share}
use Rattle.rewrite_workers.proofs.Going.{pushed_ok}
use Rattle.rewrite_workers.proofs.worker.add_line.Goals as goal
use Rattle.rewrite_workers.proofs.worker.add_line.Goals.{in-Ok, in-Err}

pub returns-clause-line : goal.returns-clause-line
returns-clause-line g c =
    let work = c.args.job.now.work in
    let old = c.args.share.now in
    let next : Share = record { worker = old.worker; seat = old.seat; lines = c.push.new.self; end = old.end } in
    let added : Numbered = record { number = c.args.number; line = c.in_ok-line.line } in
    let X : Type 0 = AddsLine old next c.args.number (told_of work.settings work.symbols.now work.plan.now.rules (term_at work.terms.now c.args.number)) in
    elim c.match-push.branch [
      | in-Ok w ↦ subst (λ r. OnOk r X) (sym w.result-is) (record {
        line = c.in_ok-line.line;
        lines = pushed_ok c.push.result old.lines.items (old.lines.items ++ added ∷ []) c.push.new.self.items c.push.ensures.items (ap is_ok w.in-Ok.is);
        told_is = c.in_ok-line.ensures.line;
        worker = c.in_ok-line.ensures.worker;
      })
      | in-Err w ↦ subst (λ r. OnOk r X) (sym w.result-is) tt
    ]

pub returns-clause-ended : goal.returns-clause-ended
returns-clause-ended g c =
    let work = c.args.job.now.work in
    let term = term_at work.terms.now c.args.number in
    let old = g.T.Terms.store c.args.desk.now in
    let new = g.T.Terms.store c.make_line.new.desk in
    let built = c.in_ok-line.ensures.ended in
    let X : Result (Unit {0}) LineStop → Type 0 = λ r. Ended work.settings work.plan.now.rules (term ∷ []) old new r in
    elim c.match-push.branch [
      | in-Ok w ↦ subst X (sym w.result-is) built
      | in-Err w ↦ subst X (sym w.result-is) (all_front work.settings work.plan.now.rules (term ∷ []) old new built.0, built.1)
    ]
