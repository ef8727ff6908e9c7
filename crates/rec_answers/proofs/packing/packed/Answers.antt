use Rattle.std.proofs.Common.{true, false, refl, arith}
use Rattle.std.proofs.lemmas.Result.{err_from_is_err_and}
use Rattle.term_commands.proofs.OneText.{no_fault}
use Rattle.rec_answers.specs.Written.{Output}
use Rattle.rec_answers.specs.declared.answers.Answer.{Answer}
use Rattle.rec_answers.proofs.Joined.{no_workers}
use Rattle.rec_answers.proofs.Telling.{filed_or_memory, text_fault_or_memory, filed_answer}
use Rattle.rec_answers.proofs.packing.packed.Goals as goal

pub returns-in_err-output-clause-accepted : goal.returns-in_err-output-clause-accepted
returns-in_err-output-clause-accepted c = λ output o.
    let p = err_from_is_err_and c.from_residual.result c.from_residual.ensures.1 in
    rw (p.1, p.2) (filed_or_memory c.args.settings.now.rows c.args.input.now c.in_err-output.field-0.0 output c.in_err-output.ensures.untold o)

pub returns-in_err-output-clause-refused : goal.returns-in_err-output-clause-refused
returns-in_err-output-clause-refused c = λ fault f.
    let p = err_from_is_err_and c.from_residual.result c.from_residual.ensures.1 in
    rw (p.1, p.2) (text_fault_or_memory c.args.settings.now.rows c.args.input.now c.in_err-output.field-0.0 fault c.in_err-output.ensures.untold f)

pub returns-clause-made : goal.returns-clause-made
returns-clause-made c =
    let output : Output = record { bytes = c.in_ok-output.output.items; values = true; refuted = false; terms = 0 } in (
      output,
      record { packed = c.in_ok-output.ensures.packed; values = refl; refuted = refl; terms = refl },
      record { bytes = refl; values = refl; refuted = refl; workers = no_workers c.args.settings.now.workers c.none.result c.none.ensures },
    )

pub returns-clause-accepted : goal.returns-clause-accepted
returns-clause-accepted c = λ output o.
    let answer : Answer = record { output = c.in_ok-output.output; values = true; refuted = false; workers = c.none.result } in
    filed_answer c.args.settings.now.rows c.args.input.now c.in_ok-output.output.items c.args.settings.now.workers answer output
    c.in_ok-output.ensures.packed refl refl refl (no_workers c.args.settings.now.workers c.none.result c.none.ensures) o

pub returns-clause-refused : goal.returns-clause-refused
returns-clause-refused c = λ fault f.
    let made = c.in_ok-output.ensures.packed in
    no_fault c.args.input.now made.symbols made.terms fault made.read f

pub pack_terms-requires : goal.pack_terms-requires
pack_terms-requires c = let rows = c.requires.rows in grind (arith, rows)
