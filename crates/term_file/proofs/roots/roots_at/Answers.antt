use Rattle.std.proofs.Common.{◌∙◌, ◌-◌, ◌+◌, arith}
use Rattle.std.proofs.lemmas.Result.{err_from_is_err_and}
use Rattle.term_file.specs.InOrder.{visits}
use Rattle.term_file.specs.Parts.{roots_of}
use Rattle.term_file.specs.Reading.{no_roots, roots_at}
use Rattle.term_file.proofs.Loops.{roots_end, roots_on, roots_done}
use Rattle.term_file.proofs.roots.roots_at.Goals as goal

pub returns-in_err-root : goal.returns-in_err-root
returns-in_err-root c =
    let l = c.loop-number in
    let p = err_from_is_err_and c.from_residual.result c.from_residual.ensures.1 in
    rw (p.1, p.2) (roots_end c.args.total (visits c.args.table.now) (c.args.count - l._number) (c.args.count - (l._number + 1)) (roots_of l.roots.items l.visited) l.rest.now (roots_at c.args.total (visits c.args.table.now) c.args.count no_roots c.args.bytes.now) c.in_err-root.field-0.0 (omega (arith, c.loop-number-test.true)) l.invariant c.in_err-root.ensures.read)

pub loop-number-preserved : goal.loop-number-preserved
loop-number-preserved c =
    let l = c.loop-number in
    let v = visits c.args.table.now in
    let n = c.args.count - (l._number + 1) in
    let r = c.in_ok-root.root in
    let after = c.in_ok-root.after.now in
    let whole = roots_at c.args.total v c.args.count no_roots c.args.bytes.now in
    let next = roots_on c.args.total v (c.args.count - l._number) n (roots_of l.roots.items l.visited) r l.rest.now after whole (omega (arith, c.loop-number-test.true)) l.invariant c.in_ok-root.ensures.read in
    (λ i. roots_at c.args.total v n (roots_of (c.in_ok-push.ensures.items i) (c.in_ok-root.ensures.came i)) after) ∙ next

pub returns : goal.returns
returns c =
    let l = c.loop-number in
    roots_done c.args.total (visits c.args.table.now) (c.args.count - l._number) (roots_of l.roots.items l.visited) l.rest.now (roots_at c.args.total (visits c.args.table.now) c.args.count no_roots c.args.bytes.now) (omega (arith, c.loop-number-test.false)) l.invariant
