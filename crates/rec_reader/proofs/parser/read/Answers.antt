use Rattle.std.proofs.Common.{◌∙◌, length, refl, sym, arith}
use Rattle.std.proofs.lemmas.Result.{err_from_is_err_and}
use Rattle.rec_reader.proofs.Verdicts.{sentence}
use Rattle.rec_reader.proofs.Wholeness.{input_whole}
use Rattle.rec_reader.proofs.Fewness.{few_tokens, input_few}
use Rattle.rec_reader.proofs.Passing.{stop_refusal, stop_spells_nothing, spells_only, ended_refusal, ended_spells_nothing}
use Rattle.rec_reader.proofs.parser.read.Goals as goal

pub specifications_in-requires : goal.specifications_in-requires
specifications_in-requires c = omega (arith, c.if-bytes-gt-MOST_BYTES.false)

pub invariant_of-result : goal.invariant_of-result
invariant_of-result c =
    let e = c.in_ok-items.ensures.ended in
    let r = e.ran in
    let few = few_tokens c.args.bytes.now r.tokens r.cut in
    let read = sentence r.tokens e.machine c.in-Some.items r.ran (sym e.ended ∙ c.in-Some.is) in (
      input_whole r.tokens c.in-Some.items read,
      input_few (length r.tokens) (omega (arith, few, c.if-bytes-gt-MOST_BYTES.false)) r.tokens c.in-Some.items (omega arith) read,
    )

pub returns-in_err-items-clause-accepted : goal.returns-in_err-items-clause-accepted
returns-in_err-items-clause-accepted c specs h =
    let p = err_from_is_err_and c.from_residual.result c.from_residual.ensures.1 in
    rw (p.1, p.2) (stop_spells_nothing c.args.bytes.now c.in_err-items.field-0.0 specs c.in_err-items.ensures.stopped h)

pub returns-in_err-items-clause-refused : goal.returns-in_err-items-clause-refused
returns-in_err-items-clause-refused c =
    let p = err_from_is_err_and c.from_residual.result c.from_residual.ensures.1 in
    rw (p.1, p.2) (stop_refusal c.args.bytes.now c.in_err-items.field-0.0 c.in_err-items.ensures.stopped)

pub returns-in-Some-clause-sentence : goal.returns-in-Some-clause-sentence
returns-in-Some-clause-sentence c =
    let e = c.in_ok-items.ensures.ended in
    let r = e.ran in
    record {
      tokens = r.tokens;
      cut = r.cut;
      sentence = sentence r.tokens e.machine c.in-Some.items r.ran (sym e.ended ∙ c.in-Some.is);
    }

pub returns-in-Some-clause-only : goal.returns-in-Some-clause-only
returns-in-Some-clause-only c others h = spells_only c.args.bytes.now c.in-Some.items others (returns-in-Some-clause-sentence c) h

pub returns-in-None-clause-accepted : goal.returns-in-None-clause-accepted
returns-in-None-clause-accepted c specs h =
    let e = c.in_ok-items.ensures.ended in
    absurd (ended_spells_nothing c.args.bytes.now e.machine specs e.ran (sym e.ended ∙ c.in-None.is) h)

pub returns-in-None-clause-refused : goal.returns-in-None-clause-refused
returns-in-None-clause-refused c =
    let e = c.in_ok-items.ensures.ended in
    rw c.refused.ensures (ended_refusal c.args.bytes.now e.machine (length c.args.bytes.now) e.ran (sym e.ended ∙ c.in-None.is) refl)
