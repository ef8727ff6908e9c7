use Rattle.std.proofs.Common.{◌≡◌, length}
use Rattle.rule_automaton.proofs.starting.firsts_of.Given as goal

abbrev pub invariant-loop-rule : goal.invariant-loop-rule
invariant-loop-rule l = length l.firsts.items ≡ length l.plan.rules
