use Rattle.std.proofs.Common.{◌+◌, refl, sym, arith}
use Rattle.std.proofs.lemmas.Result.{err_from_is_err_and}
use Rattle.rec_reader.proofs.Passing.{passed_blank, passed_whole, stopped_byte, stopped_token}
use Rattle.rec_reader.proofs.parser.run_bytes.Goals as goal

pub loop-at-preserved-in-Blank : goal.loop-at-preserved-in-Blank
loop-at-preserved-in-Blank c =
    let l = c.loop-at in
    let within = c.in-Blank.ensures.within in
    record {
      within = omega (arith, within);
      passed = passed_blank c.args.bytes.now l.at c.in-Blank.more (l.at + (c.in-Blank.more + 1)) l.machine within refl (sym c.in-Blank.ensures.piece) l.invariant.passed;
    }

pub loop-at-preserved : goal.loop-at-preserved
loop-at-preserved c =
    let l = c.loop-at in
    let within = c.in-Whole.ensures.within in
    record {
      within = omega (arith, within);
      passed = passed_whole c.args.bytes.now l.at c.in-Whole.more (l.at + (c.in-Whole.more + 1)) c.in-Whole.token l.machine c.take.new.machine within refl (sym c.in-Whole.ensures.piece) c.in_ok-take-in-Whole.ensures.taken l.invariant.passed;
    }

pub returns-in_err-take-in-Whole-clause-stopped : goal.returns-in_err-take-in-Whole-clause-stopped
returns-in_err-take-in-Whole-clause-stopped c =
    let p = err_from_is_err_and c.from_residual.result c.from_residual.ensures.1 in
    let l = c.loop-at in
    rw (p.1, p.2) (stopped_token c.args.bytes.now l.at c.in-Whole.more c.in-Whole.token l.machine c.in_err-take-in-Whole.field-0.0 c.in-Whole.ensures.within (sym c.in-Whole.ensures.piece) c.in_err-take-in-Whole.ensures.untaken l.invariant.passed)

pub returns-in-Bad-clause-stopped : goal.returns-in-Bad-clause-stopped
returns-in-Bad-clause-stopped c =
    let l = c.loop-at in
    rw c.refused.ensures (stopped_byte c.args.bytes.now l.at l.machine c.loop-at-test.true (sym c.in-Bad.ensures.piece) l.invariant.passed)
