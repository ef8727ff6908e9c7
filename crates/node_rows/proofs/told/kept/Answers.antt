use Rattle.std.proofs.Common.{arith}
use Rattle.node_rows.proofs.Tellings.{none_beyond}
use Rattle.node_rows.proofs.told.kept.Goals as goal

pub returns-else-row-pass-clause-kept : goal.returns-else-row-pass-clause-kept
returns-else-row-pass-clause-kept c = (
  (λ t. absurd (let no = c.if-row-pass.false in grind arith)),
  (λ has. absurd (none_beyond c.args.pass.now.seat.seat.me.0.store c.args.pass.now.rows c.args.pass.now.seen c.args.pass.now.last c.args.pass.now.marks c.args.row c.requires.told (let no = c.if-row-pass.false in omega arith) has)),
)
