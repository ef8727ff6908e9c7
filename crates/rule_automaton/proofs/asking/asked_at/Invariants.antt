use Rattle.std.proofs.Common.{take}
use Rattle.rule_automaton.specs.Asking.{AreWords}
use Rattle.rule_automaton.proofs.asking.asked_at.Given as goal

abbrev pub invariant-loop-rule : goal.invariant-loop-rule
invariant-loop-rule l = AreWords l.shapes (take l.rule-index l.rules) l.place l.noted.items
