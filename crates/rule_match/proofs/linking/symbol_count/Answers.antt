use Rattle.std.proofs.Common.{below_more, arith}
use Rattle.rule_match.specs.Groups.{IsBelow, head_at}
use Rattle.rule_match.proofs.Links.{weaker, below_here}
use Rattle.rule_match.proofs.linking.symbol_count.Goals as goal

pub loop-rule-preserved : goal.loop-rule-preserved
loop-rule-preserved c =
    below_more (λ k. IsBelow c.count_with-count.result (head_at c.args.rules.now k)) c.loop-rule.rule-index
    (λ k l. weaker _ _ (head_at c.args.rules.now k) c.count_with-count.ensures.kept (c.loop-rule.invariant k l))
    (below_here c.args.rules.now c.loop-rule.rule-index c.count_with-count.result c.rule-item.result c.requires (omega arith) c.rule-item.is c.count_with-count.ensures.past)
