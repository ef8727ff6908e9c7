use Rattle.std.proofs.Common.{◌≤◌, All, take, ap, subst, arith, ◌∙◌}
use Rattle.std.proofs.lemmas.List.{take_all, get_or_default}
use Rattle.std.proofs.lemmas.List.Elements.{All-more, All-weaker}
use Rattle.term_model.specs.Tree.{Leaf, nodes}
use Rattle.term_commands.proofs.counting.most_nodes.Goals as goal

pub loop-term-preserved : goal.loop-term-preserved
loop-term-preserved c =
    let terms = c.args.terms.now in
    let i = c.loop-term.term-index in
    let old = c.loop-term.most in
    let new = c.max-most.result in
    let most = c.max-most.ensures in
    let count = c.node_count.ensures.nodes in
    let same = ap (λ t. nodes t) (c.term-item.is ∙ get_or_default terms i c.term-item.result (Leaf 0) c.loop-term-test.true) in
    All-more (λ t. nodes t ≤ new) terms i (Leaf 0) c.loop-term-test.true
    (All-weaker (λ t. nodes t ≤ old) (λ t. nodes t ≤ new) (λ t h. omega (arith, h, most)) (take i terms) c.loop-term.invariant)
    (omega (arith, most, count, same))

pub returns : goal.returns
returns c =
    let terms = c.args.terms.now in
    let past = c.loop-term-test.false in
    subst (All (λ t. nodes t ≤ c.loop-term.most)) (take_all c.loop-term.term-index terms (omega (arith, past))) c.loop-term.invariant
