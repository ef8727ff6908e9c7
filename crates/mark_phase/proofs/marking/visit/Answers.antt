use Rattle.std.proofs.Common.{◌<◌, length, arith, add-one, rules}
use Rattle.std.proofs.Math.Seq.{take-suc-set}
use Rattle.mark_phase.proofs.Counting.{count-below, count-set}
use Rattle.mark_phase.proofs.marking.visit.Goals as goal

pub bounds-waiting-used : goal.bounds-waiting-used
bounds-waiting-used c = omega (arith, count-below c.args.marked.now c.args.row.0 c.requires.below c.if-marked-row.false)

pub returns-clause-waiting : goal.returns-clause-waiting
returns-clause-waiting c =
    let below = count-below c.args.marked.now c.args.row.0 c.requires.below c.if-marked-row.false in
    rw (c.if-marked-row.false, add-one) (take-suc-set c.args.waiting.now c.args.used c.args.row (omega (arith, below)))

pub offset_bounds-waiting-used : goal.offset_bounds-waiting-used
offset_bounds-waiting-used c =
    let below : c.args.used < length c.args.waiting.now = omega (arith, count-below c.args.marked.now c.args.row.0 c.requires.below c.if-marked-row.false) in
    search rules

pub overflow_add-result : goal.overflow_add-result
overflow_add-result c =
    let below : c.args.used < length c.args.waiting.now = omega (arith, count-below c.args.marked.now c.args.row.0 c.requires.below c.if-marked-row.false) in
    search rules

pub returns-clause-used : goal.returns-clause-used
returns-clause-used c = omega (arith, count-set c.args.marked.now c.args.row.0 c.requires.below c.if-marked-row.false)

pub returns-clause-less : goal.returns-clause-less
returns-clause-less c = omega (arith, count-set c.args.marked.now c.args.row.0 c.requires.below c.if-marked-row.false)
