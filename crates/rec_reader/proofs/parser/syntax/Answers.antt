use Rattle.std.proofs.Common.{◌∙◌, length, ap, sym, arith}
use Rattle.std.proofs.lemmas.Result.{err_from_is_err_and}
use Rattle.rec_reader.specs.Steps.{run, start}
use Rattle.rec_reader.proofs.Verdicts.{refusal, no_stop, end_refusal, sentence, only_these, unended}
use Rattle.rec_reader.proofs.Wholeness.{input_whole}
use Rattle.rec_reader.proofs.Fewness.{input_few}
use Rattle.rec_reader.proofs.parser.syntax.Goals as goal

pub invariant_of-result : goal.invariant_of-result
invariant_of-result c =
    let tokens = c.args.tokens.now.tokens in
    let short = c.as_slice.ensures.short in
    let e = c.in_ok-items.ensures.ended in
    let read = sentence tokens e.machine c.in-Some.items (sym (ap (run start) c.as_slice.ensures.tokens) ∙ e.ran) (sym e.ended ∙ c.in-Some.is) in (
      input_whole tokens c.in-Some.items read,
      input_few (length tokens) (omega (arith, short.bytes_few, short.tokens_few)) tokens c.in-Some.items (omega arith) read,
    )

pub returns-in_err-items-clause-accepted : goal.returns-in_err-items-clause-accepted
returns-in_err-items-clause-accepted c specs h =
    let p = err_from_is_err_and c.from_residual.result c.from_residual.ensures.1 in
    rw (p.1, p.2) (no_stop _ _ c.in_err-items.field-0.0 specs c.as_slice.ensures.tokens c.in_err-items.ensures.stopped h)

pub returns-in_err-items-clause-refused_only_at_its_place : goal.returns-in_err-items-clause-refused_only_at_its_place
returns-in_err-items-clause-refused_only_at_its_place c =
    let p = err_from_is_err_and c.from_residual.result c.from_residual.ensures.1 in
    rw (p.1, p.2) (refusal c.args.tokens.now _ c.in_err-items.field-0.0 c.as_slice.ensures.tokens c.in_err-items.ensures.stopped)

pub returns-in-Some-clause-sentence : goal.returns-in-Some-clause-sentence
returns-in-Some-clause-sentence c =
    let e = c.in_ok-items.ensures.ended in
    sentence c.args.tokens.now.tokens e.machine c.in-Some.items (sym (ap (run start) c.as_slice.ensures.tokens) ∙ e.ran) (sym e.ended ∙ c.in-Some.is)

pub returns-in-Some-clause-only : goal.returns-in-Some-clause-only
returns-in-Some-clause-only c others h = only_these c.args.tokens.now.tokens c.in-Some.items others (returns-in-Some-clause-sentence c) h

pub returns-in-None-clause-accepted : goal.returns-in-None-clause-accepted
returns-in-None-clause-accepted c specs h =
    let e = c.in_ok-items.ensures.ended in
    absurd ((unended c.args.tokens.now.tokens e.machine (sym (ap (run start) c.as_slice.ensures.tokens) ∙ e.ran) (sym e.ended ∙ c.in-None.is)).unended specs h)

pub returns-in-None-clause-refused_only_at_its_place : goal.returns-in-None-clause-refused_only_at_its_place
returns-in-None-clause-refused_only_at_its_place c =
    let e = c.in_ok-items.ensures.ended in
    rw c.refused.ensures (end_refusal c.args.tokens.now _ e.machine _ c.as_slice.ensures.tokens e.ran (sym e.ended ∙ c.in-None.is) (ap length c.text-in-None.ensures))
