use Rattle.std.proofs.Common.{◌≡◌, List, ◌+◌, length, take, get_or, ◌∙◌, ap, arith}
use Rattle.std.specs.Prelude.{sum_by}
use Rattle.std.proofs.lemmas.List.Sums.{sum_by_more}
use Rattle.rule_automaton.specs.Shapes.{tests_at}
use Rattle.rule_automaton.proofs.Trying.{read_shape}
use Rattle.rule_automaton.specs.declared.shapes.Test.{Test}
use Rattle.rule_automaton.specs.declared.shapes.Shape.{Shape}
use Rattle.rule_automaton.proofs.asking.size_of.Goals as goal

pub loop-rule-preserved : goal.loop-rule-preserved
loop-rule-preserved c =
    let shapes = c.args.shapes.now in
    let rules = c.args.rules.now in
    let i = c.loop-rule.rule-index in
    let r = get_or rules i 0 in
    let l = c.loop-rule-test.true in
    let read = read_shape shapes r c.index-shapes-rule.result (c.requires i 0 l) c.index-shapes-rule.is in
    let more : sum_by (λ q. length (tests_at shapes q)) (take (i + 1) rules) ≡ sum_by (λ q. length (tests_at shapes q)) (take i rules) + length (tests_at shapes r) = sum_by_more (λ q. length (tests_at shapes q)) rules i 0 l in
    let x = get_or shapes r c.index-shapes-rule.result in
    let size : length (tests_at shapes r) ≡ length x.tests.items = ap (λ (ts : List Test). length ts) (read.tests ∙ ap (λ (y : Shape). y.tests.items) c.index-shapes-rule.is) in
    let before = c.loop-rule.invariant in
    omega (arith, more, size, before, x.tests.ok.0)
