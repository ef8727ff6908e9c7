use Rattle.std.proofs.Common.{◌≡◌, ◌∷◌, [], ap}
use Rattle.term_model.specs.Tree.{list_of}
use Rattle.plain_rewriting.specs.Boxed.{tree_of, trees_in}
use Rattle.plain_rewriting.proofs.Stacks.{one_more, all_items}
use Rattle.plain_rewriting.proofs.boxed.Term.of.Goals as goal

pub unreachable-requires : goal.unreachable-requires
unreachable-requires c =
    let e = all_items c.items-item-items.result.now c.loop-item.item-index c.args.flat.now (trees_in c.loop-item.stack) c.loop-item-test.false c.items-item-items.ensures.well_formed c.items-item-items.ensures.items c.loop-item.invariant in
    let none : list_of (trees_in c.loop-item.stack) ≡ [] = ap (λ s. list_of (trees_in s)) c.in-Empty.is in
    cc

pub loop-item-preserved : goal.loop-item-preserved
loop-item-preserved c = one_more c.items-item-items.result.now c.loop-item.item-index c.args.flat.now (trees_in c.loop-item.stack) (trees_in c.in_ok-stack.stack) c.loop-item-test.true c.items-item-items.ensures.well_formed c.items-item-items.ensures.items c.loop-item.invariant c.in_ok-stack.ensures

pub returns : goal.returns
returns c =
    let e = all_items c.items-item-items.result.now c.loop-item.item-index c.args.flat.now (trees_in c.loop-item.stack) c.loop-item-test.false c.items-item-items.ensures.well_formed c.items-item-items.ensures.items c.loop-item.invariant in
    let is : list_of (trees_in c.loop-item.stack) ≡ tree_of c.in-Next.term.value ∷ list_of (trees_in c.in-Next.field-1.value) = ap (λ s. list_of (trees_in s)) c.in-Next.is in
    let f : tree_of c.into_inner.result ≡ tree_of c.in-Next.term.value = ap tree_of c.into_inner.ensures in
    cc
