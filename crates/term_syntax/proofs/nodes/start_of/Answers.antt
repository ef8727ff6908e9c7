use Rattle.std.proofs.Common.{sym, arith}
use Rattle.term_syntax.proofs.Ends.{start_before}
use Rattle.term_syntax.proofs.nodes.start_of.Goals as goal

pub returns-then-number-gt0 : goal.returns-then-number-gt0
returns-then-number-gt0 c = sym (start_before c.args.ends.now c.args.number (omega arith) c.requires)
