use Rattle.std.proofs.Common.{arith}
use Rattle.std.proofs.lemmas.Result.{err_from_is_err_and}
use Rattle.rec_answers.proofs.OneFault.{one_specification}
use Rattle.rec_check.specs.Spec.{specified}
use Rattle.rec_answers.proofs.FewTerms.{few_terms}
use Rattle.rec_answers.proofs.Narrow.{narrow}
use Rattle.rec_answers.proofs.Failing.{no_input_fault, fails_for_memory, fails_with}
use Rattle.rec_answers.proofs.specification.specification_of.Goals as goal

pub returns-in_err-read-clause-accepted : goal.returns-in_err-read-clause-accepted
returns-in_err-read-clause-accepted c = λ spec s m.
    let p = err_from_is_err_and c.from_residual.result c.from_residual.ensures.1 in
    rw (p.1, p.2) (fails_for_memory c.args.conditions c.args.input.now c.in_err-read.field-0.0 spec c.in_err-read.ensures.failed s m)

pub returns-in_err-read-clause-refused : goal.returns-in_err-read-clause-refused
returns-in_err-read-clause-refused c = λ fault f.
    let p = err_from_is_err_and c.from_residual.result c.from_residual.ensures.1 in
    rw (p.1, p.2) (fails_with c.args.conditions c.args.input.now c.in_err-read.field-0.0 fault c.in_err-read.ensures.failed f)

pub returns-clause-accepted : goal.returns-clause-accepted
returns-clause-accepted c = λ spec s m. one_specification c.args.input.now _ spec c.in_ok-read.ensures.made s

pub returns-clause-refused : goal.returns-clause-refused
returns-clause-refused c = λ fault f. no_input_fault c.args.conditions c.args.input.now _ fault c.in_ok-read.ensures.made c.in_ok-read.ensures.meets f

pub returns-clause-few : goal.returns-clause-few
returns-clause-few c = few_terms c.args.input.now (specified c.in_ok-read.field-0) c.in_ok-read.ensures.made

pub returns-clause-narrow : goal.returns-clause-narrow
returns-clause-narrow c =
    let widest = c.in_ok-read.ensures.widest in
    let few = narrow c.args.input.now (specified c.in_ok-read.field-0) c.in_ok-read.ensures.made in
    omega (arith, widest, few)
