use Rattle.std.proofs.Common.{refl, sym, subst, ◌∙◌, [], arith}
use Rattle.log_check.specs.Words.{lines}
use Rattle.run_checks.specs.Form.{wrong_from}
use Rattle.run_checks.specs.Refusing.{IsWrongAt}
use Rattle.run_checks.proofs.Values.{surplus}
use Rattle.run_checks.proofs.lines.ended.Goals as goal

pub returns-else-is_empty-clause-wrong : goal.returns-else-is_empty-clause-wrong
returns-else-is_empty-clause-wrong c =
    subst (IsWrongAt (wrong_from c.args.place [] (lines c.args.rest.now))) (sym c.bad_line.ensures)
    (refl, surplus c.args.place (lines c.args.rest.now) c.in-Some.line.now c.in-Some.after.now c.in-Some.ensures.lines (sym c.is_end.ensures ∙ c.if-is_end.true) (λ e. grind arith))
