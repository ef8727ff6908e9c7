use Rattle.rule_automaton.specs.Starting.{AreStarts}
use Rattle.rule_automaton.proofs.starting.group_all.Given as goal

abbrev pub invariant-loop-rule : goal.invariant-loop-rule
invariant-loop-rule l = AreStarts l.plan.rules l.rules.items l.states.items
