use Rattle.std.proofs.Common.{refl, sym, subst, arith}
use Rattle.std.proofs.lemmas.Result.{err_from_is_err_and}
use Rattle.rewrite_workers.specs.Working.{IsRewriterOf}
use Rattle.worker_crew.specs.declared.share.Share.{Share}
use Rattle.rewrite_workers.proofs.Going.{Draws, begin, finish, halt, go_on, smaller}
use Rattle.rewrite_workers.proofs.worker.draw_terms.Goals as goal

pub terms-init : goal.terms-init
terms-init g c =
    let work = c.args.job.now.work in (
      begin c.args.job.now.draws.now.shared.table_id work.settings work.symbols.now work.plan.now.rules work.terms.now (g.T.Terms.store c.args.desk.now) c.args.share.now c.requires.fresh,
      c.requires.ready,
      c.requires.rewriter,
      g.met.T.Terms.same_as_itself c.args.desk.now,
      c.requires.recalls,
    )

pub returns-then-number-count-clause-seat : goal.returns-then-number-count-clause-seat
returns-then-number-count-clause-seat g c =
    let work = c.args.job.now.work in
    let table = c.args.job.now.draws.now.shared.table_id in
    let next : Share = record { worker = c.terms.share.worker; seat = c.draw-number.new.seat; lines = c.terms.share.lines; end = c.terms.share.end } in
    let d : Draws table c.terms.share next c.draw-number.result = record { seat = c.draw-number.ensures.drew; above = c.draw-number.ensures.above; lines = refl; worker = refl } in
    (finish table work.settings work.symbols.now work.plan.now.rules work.terms.now (g.T.Terms.store c.args.desk.now) (g.T.Terms.store c.terms.desk) c.args.share.now c.terms.share next
    c.draw-number.result c.terms.invariant.0 d c.if-number-count.true).0

pub returns-then-number-count-clause-worked : goal.returns-then-number-count-clause-worked
returns-then-number-count-clause-worked g c =
    let work = c.args.job.now.work in
    let table = c.args.job.now.draws.now.shared.table_id in
    let next : Share = record { worker = c.terms.share.worker; seat = c.draw-number.new.seat; lines = c.terms.share.lines; end = c.terms.share.end } in
    let d : Draws table c.terms.share next c.draw-number.result = record { seat = c.draw-number.ensures.drew; above = c.draw-number.ensures.above; lines = refl; worker = refl } in
    (finish table work.settings work.symbols.now work.plan.now.rules work.terms.now (g.T.Terms.store c.args.desk.now) (g.T.Terms.store c.terms.desk) c.args.share.now c.terms.share next
    c.draw-number.result c.terms.invariant.0 d c.if-number-count.true).1

pub terms-smaller : goal.terms-smaller
terms-smaller g c =
    let work = c.args.job.now.work in
    let table = c.args.job.now.draws.now.shared.table_id in
    let next : Share = record { worker = c.terms.share.worker; seat = c.draw-number.new.seat; lines = c.terms.share.lines; end = c.terms.share.end } in
    let d : Draws table c.terms.share next c.draw-number.result = record { seat = c.draw-number.ensures.drew; above = c.draw-number.ensures.above; lines = refl; worker = refl } in
    smaller table work.settings work.symbols.now work.plan.now.rules work.terms.now c.terms.share next c.add_line.new.share c.draw-number.result d
    (omega (arith, c.if-number-count.false)) c.in_ok-add_line.ensures.seat

pub terms-preserved : goal.terms-preserved
terms-preserved g c =
    let work = c.args.job.now.work in
    let table = c.args.job.now.draws.now.shared.table_id in
    let store = g.T.Terms.store in
    let next : Share = record { worker = c.terms.share.worker; seat = c.draw-number.new.seat; lines = c.terms.share.lines; end = c.terms.share.end } in
    let d : Draws table c.terms.share next c.draw-number.result = record { seat = c.draw-number.ensures.drew; above = c.draw-number.ensures.above; lines = refl; worker = refl } in
    let e = c.in_ok-add_line.ensures in (
      go_on table work.settings work.symbols.now work.plan.now.rules work.terms.now (store c.args.desk.now) (store c.terms.desk) (store c.add_line.new.desk) c.args.share.now c.terms.share next
          c.add_line.new.share c.draw-number.result c.terms.invariant.0 d (omega (arith, c.if-number-count.false)) e.seat e.line e.ended e.works,
      e.ready,
      subst (IsRewriterOf work.settings work.plan.now) (sym e.rewriter) c.terms.invariant.2,
      g.met.T.Terms.same_in_turn c.args.desk.now c.terms.desk c.add_line.new.desk c.terms.invariant.3 e.same,
      e.recalls,
    )

pub returns-in_err-add_line-clause-seat : goal.returns-in_err-add_line-clause-seat
returns-in_err-add_line-clause-seat g c =
    let work = c.args.job.now.work in
    let table = c.args.job.now.draws.now.shared.table_id in
    let store = g.T.Terms.store in
    let next : Share = record { worker = c.terms.share.worker; seat = c.draw-number.new.seat; lines = c.terms.share.lines; end = c.terms.share.end } in
    let d : Draws table c.terms.share next c.draw-number.result = record { seat = c.draw-number.ensures.drew; above = c.draw-number.ensures.above; lines = refl; worker = refl } in
    let e = c.in_err-add_line.ensures in
    (halt table work.settings work.symbols.now work.plan.now.rules work.terms.now (store c.args.desk.now) (store c.terms.desk) (store c.add_line.new.desk) c.args.share.now c.terms.share next
    c.add_line.new.share c.draw-number.result c.in_err-add_line.field-0.0 c.terms.invariant.0 d (omega (arith, c.if-number-count.false)) e.seat e.unmade e.ended e.works).0

pub returns-in_err-add_line-clause-worked : goal.returns-in_err-add_line-clause-worked
returns-in_err-add_line-clause-worked g c =
    let work = c.args.job.now.work in
    let table = c.args.job.now.draws.now.shared.table_id in
    let store = g.T.Terms.store in
    let next : Share = record { worker = c.terms.share.worker; seat = c.draw-number.new.seat; lines = c.terms.share.lines; end = c.terms.share.end } in
    let d : Draws table c.terms.share next c.draw-number.result = record { seat = c.draw-number.ensures.drew; above = c.draw-number.ensures.above; lines = refl; worker = refl } in
    let e = c.in_err-add_line.ensures in
    let p = err_from_is_err_and c.from_residual.result c.from_residual.ensures.1 in
    rw (p.1, p.2) (halt table work.settings work.symbols.now work.plan.now.rules work.terms.now (store c.args.desk.now) (store c.terms.desk) (store c.add_line.new.desk) c.args.share.now
    c.terms.share next c.add_line.new.share c.draw-number.result c.in_err-add_line.field-0.0 c.terms.invariant.0 d (omega (arith, c.if-number-count.false)) e.seat e.unmade e.ended e.works).1
