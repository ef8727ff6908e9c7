use Rattle.std.proofs.Common.{◌≤◌, All, take, subst, arith}
use Rattle.std.proofs.lemmas.List.{take_all}
use Rattle.std.proofs.lemmas.List.Elements.{All-more, All-weaker}
use Rattle.term_model.specs.declared.Item.TheVariants.{Var}
use Rattle.term_model.specs.Postorder.{arity_of}
use Rattle.term_commands.proofs.counting.most_arguments.Goals as goal

pub loop-item-preserved : goal.loop-item-preserved
loop-item-preserved c =
    let items = c.args.items.now in
    let i = c.loop-item.item-index in
    let old = c.loop-item.most in
    let new = c.max-most.result in
    let most = c.max-most.ensures in
    let arity = c.arity.ensures in
    All-more (λ j. arity_of j ≤ new) items i (Var 0) c.loop-item-test.true
    (All-weaker (λ j. arity_of j ≤ old) (λ j. arity_of j ≤ new) (λ j h. omega (arith, h, most)) (take i items) c.loop-item.invariant)
    (omega (arith, most, arity))

pub returns : goal.returns
returns c =
    let items = c.args.items.now in
    let past = c.loop-item-test.false in
    subst (All (λ j. arity_of j ≤ c.loop-item.most)) (take_all c.loop-item.item-index items (omega (arith, past))) c.loop-item.invariant
