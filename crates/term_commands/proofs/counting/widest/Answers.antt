use Rattle.std.proofs.Common.{◌≤◌, All, take, subst, arith, ◌∙◌}
use Rattle.std.proofs.lemmas.List.{take_all, get_or_default}
use Rattle.std.proofs.lemmas.List.Elements.{All-more, All-weaker}
use Rattle.term_model.specs.Tree.{Leaf}
use Rattle.term_model.specs.Postorder.{arity_of, postorder}
use Rattle.term_commands.specs.Building.{IsNarrow}
use Rattle.term_commands.proofs.counting.widest.Goals as goal

pub loop-term-preserved : goal.loop-term-preserved
loop-term-preserved c =
    let terms = c.args.terms.now in
    let i = c.loop-term.term-index in
    let old = c.loop-term.widest in
    let new = c.max-widest.result in
    let most = c.max-widest.ensures in
    let here = c.most_arguments.result in
    let same = c.term-item.is ∙ get_or_default terms i c.term-item.result (Leaf 0) c.loop-term-test.true in
    let narrow = All-weaker (λ j. arity_of j ≤ here) (λ j. arity_of j ≤ new) (λ j h. omega (arith, h, most)) c.items.result.now c.most_arguments.ensures in
    All-more (IsNarrow new) terms i (Leaf 0) c.loop-term-test.true
    (All-weaker (IsNarrow old) (IsNarrow new) (λ t h. All-weaker (λ j. arity_of j ≤ old) (λ j. arity_of j ≤ new) (λ j k. omega (arith, k, most)) (postorder t) h) (take i terms) c.loop-term.invariant)
    (subst (IsNarrow new) same (subst (All (λ j. arity_of j ≤ new)) c.items.ensures.items narrow))

pub returns : goal.returns
returns c =
    let terms = c.args.terms.now in
    let past = c.loop-term-test.false in
    subst (All (IsNarrow c.loop-term.widest)) (take_all c.loop-term.term-index terms (omega (arith, past))) c.loop-term.invariant
