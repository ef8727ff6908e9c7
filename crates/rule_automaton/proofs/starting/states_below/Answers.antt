use Rattle.std.proofs.Common.{◌≡◌, ◌+◌, ◌++◌, [], ◌∷◌, map, sym, ◌∙◌, ap, arith}
use Rattle.std.proofs.lemmas.List.{map-append}
use Rattle.rule_automaton.specs.Shapes.{numbers}
use Rattle.rule_automaton.specs.Starting.{in_turn_from}
use Rattle.rule_automaton.proofs.Laying.{numbers_more}
use Rattle.rule_automaton.proofs.starting.states_below.Goals as goal

pub loop-from-preserved : goal.loop-from-preserved
loop-from-preserved c =
    let k = c.loop-from.from in
    let n = c.args.count in
    let z : k ≡ 0 + k = omega arith in
    c.in_ok-push.ensures.items
    ∙ ap (λ xs. xs ++ in_turn_from n k ∷ []) c.loop-from.invariant
    ∙ ap (λ i. map (in_turn_from n) (numbers 0 k) ++ in_turn_from n i ∷ []) z
    ∙ sym (map-append (in_turn_from n) (numbers 0 k) ((0 + k) ∷ []))
    ∙ ap (map (in_turn_from n)) (sym (numbers_more 0 k))
