use Rattle.std.proofs.Common.{List, ℕ, Bor, ap, length, length-append, refl, sym, subst, ◌∙◌, ◌∷◌, [], arith}
use Rattle.log_check.specs.Words.{lines}
use Rattle.run_checks.specs.Refusing.{IsCutOff}
use Rattle.run_checks.proofs.Values.{count_taken, line_taken, none_follows}
use Rattle.run_checks.proofs.lines.take_lines.Goals as goal

pub returns-in_default-clause-too_few : goal.returns-in_default-clause-too_few
returns-in_default-clause-too_few c =
    let i = c.loop-number.invariant in
    let n = none_follows (lines c.args.output.now) (lines c.loop-number.rest.now) c.loop-number.taken.items i.whole c.in_default.ensures.lines in
    subst (IsCutOff c.args.count (lines c.args.output.now)) (sym c.bad_line.ensures)
    (refl, omega (arith, n, i.size, c.loop-number-test.true), omega (arith, n, i.size))

pub loop-number-preserved : goal.loop-number-preserved
loop-number-preserved c =
    let i = c.loop-number.invariant in
    let n = ap (λ (xs : List (Bor (List ℕ))). length xs) c.in_ok-push.ensures.items ∙ length-append c.loop-number.taken.items (c.in-Some.line ∷ []) in
    record {
      whole = line_taken (lines c.args.output.now) (lines c.loop-number.rest.now) (lines c.in-Some.after.now) c.loop-number.taken.items c.push.new.self.items c.in-Some.line i.whole c.in-Some.ensures.lines c.in_ok-push.ensures.items;
      size = omega (arith, n, i.size);
    }

pub returns-clause-taken : goal.returns-clause-taken
returns-clause-taken c =
    let i = c.loop-number.invariant in
    record { whole = i.whole; size = count_taken c.loop-number.taken.items ∙ omega (arith, i.size, c.loop-number-test.false) }
