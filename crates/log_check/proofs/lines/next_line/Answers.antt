use Rattle.std.proofs.Common.{ap, ◌∙◌, arith}
use Rattle.log_check.specs.Words.{lines}
use Rattle.log_check.proofs.LineFeeds.{first_line, only_line}
use Rattle.log_check.proofs.lines.next_line.Goals as goal

pub returns-in-None-clause-lines : goal.returns-in-None-clause-lines
returns-in-None-clause-lines c = only_line c.args.bytes.now (λ e. grind arith) c.in-None.ensures

pub returns-in-Some-clause-lines : goal.returns-in-Some-clause-lines
returns-in-Some-clause-lines c = let e = c.in-Some.ensures in ap lines e.1 ∙ first_line c.in-Some.parts.0.now c.in-Some.parts.1.now e.0
