use Rattle.std.proofs.Common.{arith}
use Rattle.plain_rewriting.proofs.Counts.{few}
use Rattle.plain_rewriting.proofs.counting.distinct.Goals as goal

pub overflow_add-count : goal.overflow_add-count
overflow_add-count c =
    let n = few c.args.terms.now c.loop-at.at c.loop-at.invariant.1 in
    let w = c.well_formed in
    omega (arith, n, w)
