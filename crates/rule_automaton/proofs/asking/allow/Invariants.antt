use Rattle.std.proofs.Common.{◌≡◌, take, true}
use Rattle.std.specs.List.{list_all}
use Rattle.rule_automaton.specs.Automata.{is_allowed}
use Rattle.rule_automaton.specs.declared.shapes.Test.{Test}
use Rattle.rule_automaton.proofs.asking.allow.Given as goal

abbrev pub invariant-loop-test : goal.invariant-loop-test
invariant-loop-test l = list_all (λ (t : Test). is_allowed l.place l.symbol l.count t) (take l.test-index l.tests) ≡ true
