use Rattle.std.proofs.lemmas.Result.{err_from_is_err_and}
use Rattle.rec_answers.proofs.Named.{checked_named}
use Rattle.rec_answers.proofs.AtOnce.{is_read, made, meets, read_fails, check_fails}
use Rattle.rec_answers.proofs.specification.read.Goals as goal

pub returns-clause-named : goal.returns-clause-named
returns-clause-named c = checked_named c.in_ok-syntax.syntax c.checked.result c.checked.ensures.spelled

pub returns-clause-made : goal.returns-clause-made
returns-clause-made c =
    let read = is_read c.args.input.now c.in_ok-syntax.syntax c.in_ok-syntax.ensures.bytes c.in_ok-syntax.ensures.sentence in
    made c.args.input.now c.in_ok-syntax.syntax c.checked.result read c.checked.ensures.faultless c.checked.ensures.spelled

pub returns-clause-failed : goal.returns-clause-failed
returns-clause-failed c =
    let read = is_read c.args.input.now c.in_ok-syntax.syntax c.in_ok-syntax.ensures.bytes c.in_ok-syntax.ensures.sentence in
    check_fails c.args.conditions c.args.input.now c.in_ok-syntax.syntax c.checked.result read c.checked.ensures.refused

pub returns-in_err-syntax-clause-failed : goal.returns-in_err-syntax-clause-failed
returns-in_err-syntax-clause-failed c =
    let p = err_from_is_err_and c.from_residual.result c.from_residual.ensures.1 in
    rw (p.1, p.2) (read_fails c.args.conditions c.args.input.now c.in_err-syntax.field-0.0 c.in_err-syntax.ensures.refused)

pub returns-clause-meets : goal.returns-clause-meets
returns-clause-meets c =
    let read = is_read c.args.input.now c.in_ok-syntax.syntax c.in_ok-syntax.ensures.bytes c.in_ok-syntax.ensures.sentence in
    meets c.args.conditions c.args.input.now c.in_ok-syntax.syntax c.checked.result read c.checked.ensures.none
