use Rattle.std.proofs.Common.{List, get_or, subst}
use Rattle.std.proofs.lemmas.List.{get_or_default, take_all}
use Rattle.rule_automaton.specs.Asking.{HasWord, ArePicked}
use Rattle.rule_automaton.proofs.Asked.{none_picked, picked_more, picked_kept}
use Rattle.rule_automaton.specs.declared.shapes.Test.{Test}
use Rattle.rule_automaton.proofs.asking.picked.Goals.{then-not-is_last+in_ok-push, else-not-is_last}
use Rattle.rule_automaton.proofs.asking.picked.Goals as goal

pub loop-test-preserved : goal.loop-test-preserved
loop-test-preserved c =
    let tests = c.args.tests.now in
    let words = c.loop-test.words.items in
    let k = c.loop-test.test-index in
    let zero : Test = record { place = 0; symbol = record { 0 = 0 }; count = 0; base = 0 } in
    let t = get_or tests k zero in
    let l = c.loop-test-test.true in
    let i = c.loop-test.invariant in
    let is = get_or_default tests k zero t l in
    elim c.if-not-is_last.branch [
      | then-not-is_last+in_ok-push w ↦ rw w.words-is (rw w.in_ok-push.ensures.items (picked_more tests words k t l is i))
      | else-not-is_last w ↦ rw w.words-is (picked_kept tests words k t l is i (subst (λ (ws : List Test). HasWord ws t) c.deref.ensures.value (c.is_last.ensures w.if-not-is_last.false)))
    ]

pub loop-test-init : goal.loop-test-init
loop-test-init c = rw c.new-words.ensures.items (none_picked c.args.tests.now)

pub returns : goal.returns
returns c =
    subst (λ ts. ArePicked c.args.tests.now ts c.loop-test.words.items) (take_all c.loop-test.test-index c.args.tests.now c.loop-test-test.false) c.loop-test.invariant
