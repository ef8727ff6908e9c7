use Rattle.innermost.proofs.Following.{pattern_follows, conditions_follow, rule_follows}
use Rattle.innermost.proofs.laws.code_laws.Goals as goal

pub returns-clause-patterns : goal.returns-clause-patterns
returns-clause-patterns c = λ reduce bound below room fails p down is stack fuel le. pattern_follows reduce bound below room fails le p down is stack fuel

pub returns-clause-conditions : goal.returns-clause-conditions
returns-clause-conditions c = λ reduce bound below room fails cs down is stack fuel le. conditions_follow reduce bound below room fails le cs down is stack fuel

pub returns-clause-rules : goal.returns-clause-rules
returns-clause-rules c = λ reduce r bound below t room fails fuel le e. rule_follows reduce bound below room fails le r.conditions r.right t r.vars fuel e
