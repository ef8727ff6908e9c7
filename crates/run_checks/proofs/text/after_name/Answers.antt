use Rattle.run_checks.proofs.Texts.{begins_not}
use Rattle.run_checks.proofs.text.after_name.Goals as goal

pub returns-else-eq : goal.returns-else-eq
returns-else-eq c = begins_not c.args.name.now c.args.bytes.now c.split_at.result.0.now c.eq.result c.split_at.ensures.front c.eq.ensures c.if-eq.false
