use Rattle.std.proofs.Common.{◌∙◌, arith}
use Rattle.rec_check.specs.Spec.{specified}
use Rattle.run_checks.specs.Refusing.{seen}
use Rattle.log_check.specs.Words.{lines}
use Rattle.run_checks.proofs.Verdicts.{verdict_there, terms_cut}
use Rattle.run_checks.proofs.checking.verdict.Goals as goal

pub returns-clause-verdict : goal.returns-clause-verdict
returns-clause-verdict c =
    let output = c.in_ok-output.output in
    c.told.ensures
    ∙ verdict_there (specified c.args.spec) (lines c.args.output.now) (seen output) (lines output.traces.now) c.in_ok-found.found c.in_ok-output.values
    (terms_cut c.len.result (lines c.args.output.now) (seen output) (lines output.traces.now) (specified c.args.spec) (omega (arith, c.len.ensures)) c.in_ok-output.ensures.cut)
    c.in_ok-output.ensures.count c.in_ok-found.ensures
