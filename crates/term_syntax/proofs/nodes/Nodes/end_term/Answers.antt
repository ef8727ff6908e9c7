use Rattle.std.proofs.Common.{length, arith}
use Rattle.term_syntax.proofs.Ends.{ended, ended_ends}
use Rattle.term_syntax.proofs.nodes.Nodes.end_term.Goals as goal

pub invariant_of-self-2 : goal.invariant_of-self-2
invariant_of-self-2 c = ended_ends c.self.inside.ends.items c.push.new.self.items c.len.result (length c.self.inside.items.items) c.self.invariant (omega (arith, c.len.ensures)) c.in_ok-push.ensures.items

pub returns : goal.returns
returns c = ended c.self.inside.ends.items c.push.new.self.items c.len.result c.self.inside.items.items c.args.self.now (omega (arith, c.len.ensures)) c.in_ok-push.ensures.items c.self.view_is
