use Rattle.std.proofs.Common.{get_or}
use Rattle.std.proofs.lemmas.List.{get_or_default}
use Rattle.rule_automaton.proofs.Asked.{no_words, words_more, words_kept}
use Rattle.rule_automaton.specs.declared.shapes.Test.{Test}
use Rattle.rule_automaton.proofs.asking.note_tests.Goals.{then-test-place+in_ok-push, else-test-place}
use Rattle.rule_automaton.proofs.asking.note_tests.Goals as goal

pub loop-test-init : goal.loop-test-init
loop-test-init c = no_words c.args.place c.args.noted.now.items

pub loop-test-preserved : goal.loop-test-preserved
loop-test-preserved c =
    let tests = c.args.tests.now in
    let old = c.args.noted.now.items in
    let words = c.loop-test.noted.items in
    let k = c.loop-test.test-index in
    let zero : Test = record { place = 0; symbol = record { 0 = 0 }; count = 0; base = 0 } in
    let t = get_or tests k zero in
    let l = c.loop-test-test.true in
    let i = c.loop-test.invariant in
    let is = get_or_default tests k zero t l in
    elim c.if-test-place.branch [
      | then-test-place+in_ok-push w ↦ rw w.noted-is (rw w.in_ok-push.ensures.items (words_more c.args.place tests old words k t l is i w.if-test-place.true))
      | else-test-place w ↦ rw w.noted-is (words_kept c.args.place tests old words k t l is i (λ e. absurd (w.if-test-place.false e)))
    ]
