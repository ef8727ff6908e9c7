use Rattle.std.proofs.Common.{◌≡◌, length}
use Rattle.rule_automaton.proofs.starting.others_of.Given as goal

abbrev pub invariant-loop-rule : goal.invariant-loop-rule
invariant-loop-rule l = length l.others.items ≡ length l.plan.rules
