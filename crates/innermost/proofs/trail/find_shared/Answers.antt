use Rattle.std.proofs.Common.{arith}
use Rattle.innermost.proofs.Trails.{moves_end, moves_differ_at}
use Rattle.innermost.proofs.trail.find_shared.Goals as goal

pub returns-then-from-at-clause-moves : goal.returns-then-from-at-clause-moves
returns-then-from-at-clause-moves c = moves_differ_at c.args.from.now c.args.to.now c.shared.at c.shared.invariant (omega arith) (omega arith) (λ e. omega (arith, e))

pub returns-else-at-to-clause-moves : goal.returns-else-at-to-clause-moves
returns-else-at-to-clause-moves c = moves_end c.args.from.now c.args.to.now c.shared.at c.shared.invariant (λ l m. absurd (omega (arith, m, c.if-at-to.false)))

pub returns-after-shared-clause-moves : goal.returns-after-shared-clause-moves
returns-after-shared-clause-moves c = moves_end c.args.from.now c.args.to.now c.shared.at c.shared.invariant (λ l m. absurd (omega (arith, l, c.shared-test.false)))
