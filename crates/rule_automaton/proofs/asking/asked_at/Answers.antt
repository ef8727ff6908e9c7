use Rattle.std.proofs.Common.{List, get_or, sym, ◌∙◌, ap, subst}
use Rattle.std.proofs.lemmas.List.{get_or_default, take_all}
use Rattle.rule_automaton.specs.Asking.{NotesWords, AreWords}
use Rattle.rule_automaton.proofs.Trying.{read_shape}
use Rattle.rule_automaton.proofs.Asked.{no_rules, one_more_rule}
use Rattle.rule_automaton.specs.declared.shapes.Test.{Test}
use Rattle.rule_automaton.specs.declared.shapes.Shape.{Shape}
use Rattle.rule_automaton.proofs.asking.asked_at.Goals as goal

pub loop-rule-preserved : goal.loop-rule-preserved
loop-rule-preserved c =
    let shapes = c.args.shapes.now in
    let rules = c.args.rules.now in
    let i = c.loop-rule.rule-index in
    let r = get_or rules i 0 in
    let l = c.loop-rule-test.true in
    let read = read_shape shapes r c.index-shapes-rule.result (c.requires i 0 l) c.index-shapes-rule.is in
    one_more_rule shapes rules c.args.place i r c.loop-rule.noted.items c.note_tests.new.noted.items l (get_or_default rules i 0 r l)
    (subst (λ (ts : List Test). NotesWords c.args.place ts c.loop-rule.noted.items c.note_tests.new.noted.items) (c.deref.ensures.value ∙ sym (ap (λ (s : Shape). s.tests.items) c.index-shapes-rule.is) ∙ sym read.tests) c.in_ok-note_tests.ensures) c.loop-rule.invariant

pub bounds-shapes-rule : goal.bounds-shapes-rule
bounds-shapes-rule c = c.requires c.loop-rule.rule-index 0 c.loop-rule-test.true

pub loop-rule-init : goal.loop-rule-init
loop-rule-init c = rw c.new-noted.ensures.items (no_rules c.args.shapes.now c.args.place)

pub returns : goal.returns
returns c =
    subst (λ rs. AreWords c.args.shapes.now rs c.args.place c.loop-rule.noted.items) (take_all c.loop-rule.rule-index c.args.rules.now c.loop-rule-test.false) c.loop-rule.invariant
