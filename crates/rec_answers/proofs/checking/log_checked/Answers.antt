use Rattle.std.proofs.Common.{true, refl}
use Rattle.std.proofs.lemmas.Result.{err_from_is_err_and}
use Rattle.rec_answers.specs.Checked.{verdict_output}
use Rattle.rec_answers.specs.declared.answers.Answer.{Answer}
use Rattle.rec_answers.proofs.Joined.{no_workers}
use Rattle.rec_answers.proofs.LogVerdicts.{no_log_fault, checked_or_memory, log_fault_or_memory, verdict_answer}
use Rattle.rec_answers.proofs.checking.log_checked.Goals as goal

pub returns-in_err-verdict-clause-accepted : goal.returns-in_err-verdict-clause-accepted
returns-in_err-verdict-clause-accepted c = λ output o.
    let p = err_from_is_err_and c.from_residual.result c.from_residual.ensures.1 in
    rw (p.1, p.2) (checked_or_memory c.args.input.now c.in_err-verdict.field-0.0 output c.in_err-verdict.ensures.refused o)

pub returns-in_err-verdict-clause-refused : goal.returns-in_err-verdict-clause-refused
returns-in_err-verdict-clause-refused c = λ fault f.
    let p = err_from_is_err_and c.from_residual.result c.from_residual.ensures.1 in
    rw (p.1, p.2) (log_fault_or_memory c.args.input.now c.in_err-verdict.field-0.0 fault c.in_err-verdict.ensures.refused f)

pub returns-clause-made : goal.returns-clause-made
returns-clause-made c =
    let v = c.in_ok-verdict.verdict in (
      verdict_output v,
      record { verdict = v; found = c.in_ok-verdict.ensures.found; output_is = refl },
      record { bytes = c.in_ok-output.ensures; values = refl; refuted = c.is_illegal.ensures; workers = no_workers c.args.settings.now.workers c.none.result c.none.ensures },
    )

pub returns-clause-accepted : goal.returns-clause-accepted
returns-clause-accepted c = λ output o.
    let v = c.in_ok-verdict.verdict in
    let answer : Answer = record { output = c.in_ok-output.output; values = true; refuted = c.is_illegal.result; workers = c.none.result } in
    verdict_answer c.args.input.now v c.args.settings.now.workers answer output c.in_ok-verdict.ensures.found
    (record { bytes = c.in_ok-output.ensures; values = refl; refuted = c.is_illegal.ensures; workers = no_workers c.args.settings.now.workers c.none.result c.none.ensures })
    o

pub returns-clause-refused : goal.returns-clause-refused
returns-clause-refused c = λ fault f. no_log_fault c.args.input.now c.in_ok-verdict.verdict fault c.in_ok-verdict.ensures.found f
