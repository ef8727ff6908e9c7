use Rattle.std.proofs.Common.{ℕ, pred, subst}
use Rattle.node_rows.specs.declared.store.Last.TheVariants.{Collect}
use Rattle.node_rows.specs.Told.{IsTold}
use Rattle.node_rows.proofs.Tellings.{told_collected, before_base}
use Rattle.node_rows.proofs.told.tell_collect.Goals as goal

pub returns-clause-told : goal.returns-clause-told
returns-clause-told c = λ es kept entries seen room marked.
    subst (λ (n : ℕ). IsTold c.args.pass.now.seat.seat.me.0.store c.args.pass.now.rows n (Collect n) c.args.pass.now.marks) (before_base c.args.base)
    (told_collected c.args.pass.now.seat.seat.me.0.store es c.args.pass.now.rows (pred c.args.base) c.args.pass.now.marks kept entries seen room marked)
