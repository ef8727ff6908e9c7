use Rattle.std.proofs.Common.{false, refl}
use Rattle.std.proofs.lemmas.Result.{err_from_is_err_and}
use Rattle.term_commands.proofs.OneFile.{no_file_fault}
use Rattle.rec_answers.specs.Written.{Output}
use Rattle.rec_answers.specs.declared.answers.Answer.{Answer}
use Rattle.rec_answers.proofs.Joined.{no_workers}
use Rattle.rec_answers.proofs.Telling.{unfiled_or_memory, unfiled_answer}
use Rattle.rec_answers.proofs.unpacking.unpacked.Goals as goal

pub returns-in_err-lines-clause-accepted : goal.returns-in_err-lines-clause-accepted
returns-in_err-lines-clause-accepted c = λ output o.
    let p = err_from_is_err_and c.from_residual.result c.from_residual.ensures.1 in
    rw (p.1, p.2) (unfiled_or_memory c.args.input.now c.in_err-lines.field-0.0 output c.in_err-lines.ensures.closed o)

pub returns-clause-made : goal.returns-clause-made
returns-clause-made c =
    let output : Output = record { bytes = c.in_ok-lines.lines.text.items; values = c.in_ok-lines.lines.whole; refuted = false; terms = 0 } in (
      output,
      record { unpacked = c.in_ok-lines.ensures.unpacked; refuted = refl; terms = refl },
      record { bytes = refl; values = refl; refuted = refl; workers = no_workers c.args.settings.now.workers c.none.result c.none.ensures },
    )

pub returns-clause-accepted : goal.returns-clause-accepted
returns-clause-accepted c = λ output o.
    let answer : Answer = record { output = c.in_ok-lines.lines.text; values = c.in_ok-lines.lines.whole; refuted = false; workers = c.none.result } in
    unfiled_answer c.args.input.now c.args.settings.now.workers answer output c.in_ok-lines.ensures.unpacked refl (no_workers c.args.settings.now.workers c.none.result c.none.ensures) o

pub returns-clause-refused : goal.returns-clause-refused
returns-clause-refused c = λ fault f.
    no_file_fault c.args.input.now c.in_ok-lines.lines.text.items c.in_ok-lines.lines.whole fault c.in_ok-lines.ensures.unpacked f
