use Rattle.std.proofs.Common.{◌≡◌, ◌+◌, ◌++◌, [], ◌∷◌, sym, ◌∙◌, ap, arith}
use Rattle.rule_automaton.specs.Shapes.{numbers}
use Rattle.rule_automaton.proofs.Laying.{numbers_more}
use Rattle.rule_automaton.proofs.shapes.numbers_below.Goals as goal

pub loop-number-preserved : goal.loop-number-preserved
loop-number-preserved c =
    let k = c.loop-number.number in
    let z : k ≡ 0 + k = omega arith in
    c.in_ok-push.ensures.items ∙ ap (λ xs. xs ++ k ∷ []) c.loop-number.invariant ∙ ap (λ i. numbers 0 k ++ i ∷ []) z ∙ sym (numbers_more 0 k)
