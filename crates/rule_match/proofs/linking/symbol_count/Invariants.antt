use Rattle.std.proofs.Common.{ℕ, ◌<◌}
use Rattle.rule_match.specs.Groups.{IsBelow, head_at}
use Rattle.rule_match.proofs.linking.symbol_count.Given as goal

-- the heads of the rules before a place are below the count
abbrev pub invariant-loop-rule : goal.invariant-loop-rule
invariant-loop-rule l = (k : ℕ) → k < l.rule-index → IsBelow l.count (head_at l.rules k)
