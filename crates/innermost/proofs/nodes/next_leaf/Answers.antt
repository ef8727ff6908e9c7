use Rattle.std.proofs.Common.{◌≡◌, ◌+◌, [], ◌∷◌, length, ◌∙◌, ap, arith}
use Rattle.std.proofs.lemmas.List.{length-append}
use Rattle.std.proofs.lemmas.Result.{err_from_is_err_and}
use Rattle.innermost.proofs.nodes.next_leaf.Goals as goal

pub returns-in_err-push : goal.returns-in_err-push
returns-in_err-push c =
    let p = err_from_is_err_and c.from_residual.result c.from_residual.ensures.1 in
    let e = c.in-Some.ensures in
    let n : length c.args.trail.now.way.items ≡ length c.leave_argument.new.trail.way.items + 1 = ap length e.way ∙ length-append c.leave_argument.new.trail.way.items (c.in-Some.argument ∷ []) in
    let high = e.high in
    record { way = rw p.1 tt; same = e.same; high = omega (arith, high, n); cursor = e.cursor; marks = e.marks }

pub returns-in_err-push_firsts : goal.returns-in_err-push_firsts
returns-in_err-push_firsts c =
    let p = err_from_is_err_and c.from_residual-in_err-push_firsts.result c.from_residual-in_err-push_firsts.ensures.1 in
    let e = c.in-Some.ensures in
    let n : length c.args.trail.now.way.items ≡ length c.leave_argument.new.trail.way.items + 1 = ap length e.way ∙ length-append c.leave_argument.new.trail.way.items (c.in-Some.argument ∷ []) in
    let high = e.high in
    record { way = rw p.1 tt; same = e.same; high = omega (arith, high, n); cursor = e.cursor; marks = e.marks }

pub returns-in_ok-push_firsts-clause-high : goal.returns-in_ok-push_firsts-clause-high
returns-in_ok-push_firsts-clause-high c =
    let e = c.in-Some.ensures in
    let n : length c.args.trail.now.way.items ≡ length c.leave_argument.new.trail.way.items + 1 = ap length e.way ∙ length-append c.leave_argument.new.trail.way.items (c.in-Some.argument ∷ []) in
    let high = e.high in
    omega (arith, high, n)
