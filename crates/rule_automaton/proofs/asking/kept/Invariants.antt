use Rattle.std.proofs.Common.{◌≡◌, take}
use Rattle.rule_automaton.specs.Automata.{kept}
use Rattle.rule_automaton.proofs.asking.kept.Given as goal

abbrev pub invariant-loop-rule : goal.invariant-loop-rule
invariant-loop-rule l = l.all.items ≡ kept l.shapes l.place l.word.symbol l.word.count (take l.rule-index l.rules)
