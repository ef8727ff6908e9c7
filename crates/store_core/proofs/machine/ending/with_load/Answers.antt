use Rattle.store_model.proofs.Ending.{value_old, value_here, value_none}
use Rattle.store_core.proofs.machine.ending.with_load.Goals as goal

pub returns-then-is_some : goal.returns-then-is_some
returns-then-is_some c = λ before e. value_old c.args.place before c.args.load c.args.value e (c.is_some.ensures) c.if-is_some.true

pub returns-then-is_same : goal.returns-then-is_same
returns-then-is_same c = λ before e. value_here c.args.place before c.args.load c.args.value e c.is_some.ensures c.if-is_some.false (c.is_same.ensures.0 c.if-is_same.true)

pub returns-else-is_same : goal.returns-else-is_same
returns-else-is_same c = λ before e. value_none c.args.place before c.args.load c.args.value e c.is_some.ensures c.if-is_some.false c.is_same.ensures.1 c.if-is_same.false
