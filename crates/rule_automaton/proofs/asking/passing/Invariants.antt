use Rattle.std.proofs.Common.{◌≡◌, take}
use Rattle.rule_automaton.specs.Automata.{passing}
use Rattle.rule_automaton.proofs.asking.passing.Given as goal

abbrev pub invariant-loop-rule : goal.invariant-loop-rule
invariant-loop-rule l = l.all.items ≡ passing l.shapes l.place (take l.rule-index l.rules)
