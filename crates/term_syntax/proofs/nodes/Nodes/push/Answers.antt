use Rattle.term_syntax.proofs.Ends.{pushed, pushed_ends}
use Rattle.term_syntax.proofs.nodes.Nodes.push.Goals as goal

pub invariant_of-self-2 : goal.invariant_of-self-2
invariant_of-self-2 c = pushed_ends c.self.inside.ends.items c.self.inside.items.items c.push.new.self.items c.args.node c.self.invariant c.in_ok-push.ensures.items

pub returns : goal.returns
returns c = pushed c.self.inside.ends.items c.self.inside.items.items c.push.new.self.items c.args.node c.args.self.now c.self.invariant c.in_ok-push.ensures.items c.self.view_is
