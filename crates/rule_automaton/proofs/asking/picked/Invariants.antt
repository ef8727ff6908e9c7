use Rattle.std.proofs.Common.{take}
use Rattle.rule_automaton.specs.Asking.{ArePicked}
use Rattle.rule_automaton.proofs.asking.picked.Given as goal

abbrev pub invariant-loop-test : goal.invariant-loop-test
invariant-loop-test l = ArePicked l.tests (take l.test-index l.tests) l.words.items
