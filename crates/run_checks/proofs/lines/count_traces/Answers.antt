use Rattle.std.proofs.Common.{ℕ, ◌+◌, List, length, drop, ap, sym, subst, ◌∙◌, arith}
use Rattle.std.proofs.lemmas.Result.{err_from_is_err_and}
use Rattle.log_check.specs.Words.{lines}
use Rattle.run_checks.specs.Form.{values_from, wrong_from}
use Rattle.run_checks.specs.Refusing.{IsWrongAt}
use Rattle.run_checks.proofs.Values.{seen_lines, count_taken, value_taken, no_value_taken}
use Rattle.run_checks.proofs.lines.count_traces.Goals.{then-not-is_no_value+in_ok-rest, else-not-is_no_value}
use Rattle.run_checks.proofs.lines.count_traces.Goals as goal

pub returns-in_err-rest-clause-wrong : goal.returns-in_err-rest-clause-wrong
returns-in_err-rest-clause-wrong c =
    let i = c.loop-number.number in
    let here = value_taken c.args.taken.now i _ c.loop-number-test.true (sym c.is_no_value.ensures ∙ c.if-not-is_no_value.true) in
    let whole = c.loop-number.invariant.wrong ∙ ap (λ (is : List ℕ). wrong_from (c.loop-number.place + 1) is (lines c.loop-number.rest.now)) here in
    let start = ap (λ (n : ℕ). wrong_from (n + 1) (values_from 0 (seen_lines c.args.taken.now)) (lines c.args.traces.now)) (count_taken c.args.taken.now) in
    let p = err_from_is_err_and c.from_residual.result c.from_residual.ensures.1 in
    rw (p.1, p.2) (subst (λ o. IsWrongAt o c.in_err-rest.field-0.0) (sym (start ∙ whole)) (c.in_err-rest.ensures.wrong (values_from (i + 1) (drop (i + 1) (seen_lines c.args.taken.now)))))

pub loop-number-preserved : goal.loop-number-preserved
loop-number-preserved c =
    let i = c.loop-number.number in
    let v = c.loop-number.invariant in
    let more = values_from (i + 1) (drop (i + 1) (seen_lines c.args.taken.now)) in
    elim c.if-not-is_no_value.branch [
      | then-not-is_no_value+in_ok-rest w ↦ rw (w.place-is, w.rest-is) (
          let here = value_taken c.args.taken.now i _ c.loop-number-test.true (sym c.is_no_value.ensures ∙ w.if-not-is_no_value.true) in
          let n = ap (λ (is : List ℕ). length is) here in
          record {
            wrong = v.wrong ∙ ap (λ (is : List ℕ). wrong_from (c.loop-number.place + 1) is (lines c.loop-number.rest.now)) here ∙ w.in_ok-rest.ensures.after more;
            count = omega (arith, v.count, n);
            bound = omega (arith, v.bound);
          })
      | else-not-is_no_value w ↦ rw (w.place-is, w.rest-is) (
          let here = no_value_taken c.args.taken.now i _ c.loop-number-test.true (sym c.is_no_value.ensures ∙ w.if-not-is_no_value.false) in
          let n = ap (λ (is : List ℕ). length is) here in
          record {
            wrong = v.wrong ∙ ap (λ (is : List ℕ). wrong_from (c.loop-number.place + 1) is (lines c.loop-number.rest.now)) here;
            count = omega (arith, v.count, n);
            bound = omega (arith, v.bound);
          })
    ]
