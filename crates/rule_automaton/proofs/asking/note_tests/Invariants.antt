use Rattle.std.proofs.Common.{take}
use Rattle.rule_automaton.specs.Asking.{NotesWords}
use Rattle.rule_automaton.proofs.asking.note_tests.Given as goal

abbrev pub invariant-loop-test : goal.invariant-loop-test
invariant-loop-test l = NotesWords l.place (take l.test-index l.tests) l.initial.noted.items l.noted.items
