use Rattle.std.proofs.Common.{refl, arith}
use Rattle.innermost.proofs.Trails.{kept_all, kept_some}
use Rattle.innermost.proofs.trail.keep.Goals as goal

pub returns-then-count-len-clause-trail : goal.returns-then-count-len-clause-trail
returns-then-count-len-clause-trail c = λ steps base old new t last k.
    kept_all steps base old new c.args.trail.now t c.args.count last k (omega (arith, c.if-count-len.true, c.len.ensures, c.args.trail.now.marks.ok.0))

pub returns-clause-trail : goal.returns-clause-trail
returns-clause-trail c = λ steps base old new t last k.
    kept_some steps base old new c.args.trail.now t c.args.count last k (omega (arith, c.if-count-len.false, c.len.ensures, c.args.trail.now.marks.ok.0)) c.index-length.result.now c.index-length.ensures _ c.truncate.ensures.items c.truncate-2.ensures.items refl c.lesser-trail.ensures
