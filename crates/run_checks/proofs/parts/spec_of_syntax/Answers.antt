use Rattle.std.proofs.lemmas.Result.{err_from_is_err_and}
use Rattle.rec_check.specs.Spec.{specified}
use Rattle.run_checks.proofs.Faulty.{offence_fails, condition_fails}
use Rattle.run_checks.proofs.Named.{symbols_named}
use Rattle.run_checks.proofs.parts.spec_of_syntax.Goals as goal

pub returns-clause-made : goal.returns-clause-made
returns-clause-made c = record {
  syntax = c.args.syntax.now;
  read = c.requires;
  faultless = c.in_ok-spec.ensures.accepted_only_without_offence;
  unconditional = c.in_ok-unconditional.ensures.accepted_only_without_conditions;
  spec_is = c.in_ok-spec.ensures.spelled;
}

pub returns-clause-named : goal.returns-clause-named
returns-clause-named c = symbols_named c.args.syntax.now (specified c.in_ok-spec.spec) c.in_ok-spec.ensures.spelled

pub returns-in_err-spec-clause-failed : goal.returns-in_err-spec-clause-failed
returns-in_err-spec-clause-failed c =
    let p = err_from_is_err_and c.from_residual.result c.from_residual.ensures.1 in
    rw (p.1, p.2) (offence_fails c.args.syntax.now.bytes c.args.syntax.now c.requires c.in_err-spec.field-0.0 c.in_err-spec.ensures.refused_only_with_the_fault)

pub returns-in_err-unconditional-clause-failed : goal.returns-in_err-unconditional-clause-failed
returns-in_err-unconditional-clause-failed c =
    let p = err_from_is_err_and c.from_residual-in_err-unconditional.result c.from_residual-in_err-unconditional.ensures.1 in
    rw (p.1, p.2) (condition_fails c.args.syntax.now.bytes c.args.syntax.now c.requires c.in_err-unconditional.field-0.0 c.in_ok-spec.ensures.accepted_only_without_offence c.in_err-unconditional.ensures.refused_only_at_the_first)
