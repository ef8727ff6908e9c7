use Rattle.std.proofs.Common.{refl}
use Rattle.rec_check.specs.Spec.{specified}
use Rattle.run_checks.proofs.FewTerms.{few_terms}
use Rattle.run_checks.proofs.Verdicts.{in_halves, checked_if, sound_if, refused_if}
use Rattle.run_checks.proofs.checking.check_trace.Goals as goal

pub verdict-requires-clause-few : goal.verdict-requires-clause-few
verdict-requires-clause-few c = few_terms c.in-Some.text.now (specified c.in_ok-spec.spec) c.in_ok-spec.ensures.made

pub returns-clause-checked : goal.returns-clause-checked
returns-clause-checked c =
    let are = in_halves c.args.bytes.now c.in-Some.text.now c.in-Some.output.now c.parts.result c.in-Some.text c.in-Some.output c.parts.ensures c.in-Some.is refl refl in
    checked_if c.args.bytes.now c.in-Some.text.now c.in-Some.output.now are (specified c.in_ok-spec.spec) c.in_ok-spec.ensures.made c.verdict.result c.verdict.ensures.formed c.verdict.ensures.verdict

pub returns-clause-sound : goal.returns-clause-sound
returns-clause-sound c =
    let are = in_halves c.args.bytes.now c.in-Some.text.now c.in-Some.output.now c.parts.result c.in-Some.text c.in-Some.output c.parts.ensures c.in-Some.is refl refl in
    sound_if c.args.bytes.now c.in-Some.text.now c.in-Some.output.now are (specified c.in_ok-spec.spec) c.in_ok-spec.ensures.made c.verdict.result c.verdict.ensures.formed c.verdict.ensures.verdict

pub returns-clause-refused : goal.returns-clause-refused
returns-clause-refused c =
    let are = in_halves c.args.bytes.now c.in-Some.text.now c.in-Some.output.now c.parts.result c.in-Some.text c.in-Some.output c.parts.ensures c.in-Some.is refl refl in
    refused_if c.args.bytes.now c.in-Some.text.now c.in-Some.output.now are (specified c.in_ok-spec.spec) c.in_ok-spec.ensures.made c.verdict.result c.verdict.ensures.wrong
