use Rattle.std.proofs.Common.{◌++◌, [], ◌∷◌, get_or, sym, ◌∙◌, ap}
use Rattle.std.specs.List.{list_all}
use Rattle.std.proofs.lemmas.List.{take_all}
use Rattle.rule_automaton.specs.Shapes.{tests_at}
use Rattle.std.specs.Prelude.{not, ◌==◌}
use Rattle.rule_automaton.specs.Automata.{passing}
use Rattle.rule_automaton.proofs.Trying.{read_shape}
use Rattle.rule_automaton.proofs.Asked.{filter_yes, filter_no}
use Rattle.rule_automaton.specs.declared.shapes.Test.{Test}
use Rattle.rule_automaton.specs.declared.shapes.Shape.{Shape}
use Rattle.rule_automaton.proofs.asking.passing.Goals.{then-pass+in_ok-push, else-pass}
use Rattle.rule_automaton.proofs.asking.passing.Goals as goal

pub loop-rule-preserved : goal.loop-rule-preserved
loop-rule-preserved c =
    let shapes = c.args.shapes.now in
    let rules = c.args.rules.now in
    let i = c.loop-rule.rule-index in
    let r = get_or rules i 0 in
    let l = c.loop-rule-test.true in
    let test = λ (t : Test). not (t.place == c.args.place) in
    let read = read_shape shapes r c.index-shapes-rule.result (c.requires i 0 l) c.index-shapes-rule.is in
    let is = ap (list_all test) (read.tests ∙ ap (λ (s : Shape). s.tests.items) c.index-shapes-rule.is ∙ sym c.deref.ensures.value) ∙ sym c.pass.ensures in
    elim c.if-pass.branch [
      | then-pass+in_ok-push w ↦ rw w.all-is (w.in_ok-push.ensures.items ∙ ap (λ xs. xs ++ r ∷ []) c.loop-rule.invariant ∙ sym (filter_yes (λ q. list_all test (tests_at shapes q)) rules i 0 l (is ∙ w.if-pass.true)))
      | else-pass w ↦ rw w.all-is (c.loop-rule.invariant ∙ sym (filter_no (λ q. list_all test (tests_at shapes q)) rules i 0 l (is ∙ w.if-pass.false)))
    ]

pub bounds-shapes-rule : goal.bounds-shapes-rule
bounds-shapes-rule c = c.requires c.loop-rule.rule-index 0 c.loop-rule-test.true

pub loop-rule-init : goal.loop-rule-init
loop-rule-init c = c.new-all.ensures.items

pub returns : goal.returns
returns c = c.loop-rule.invariant ∙ ap (λ rs. passing c.args.shapes.now c.args.place rs) (take_all c.loop-rule.rule-index c.args.rules.now c.loop-rule-test.false)
