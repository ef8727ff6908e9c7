use Rattle.rule_automaton.specs.Starting.{AreStarts}
use Rattle.rule_automaton.proofs.starting.group.Given as goal

abbrev pub invariant-loop-at : goal.invariant-loop-at
invariant-loop-at l = AreStarts l.plan.rules l.rules.items l.states.items
