use Rattle.std.proofs.Common.{◌≡◌, ◌+◌, refl, get_or, arith, None, false, ap, ◌∙◌}
use Rattle.std.specs.Prelude.{is_some}
use Rattle.term_model.specs.Postorder.{tree_of}
use Rattle.term_model.specs.declared.Item.TheVariants.{Var}
use Rattle.term_model.proofs.Shapes.{one_item, no_stack}
use Rattle.term_model.proofs.flattened.spells_tree.Goals as goal

pub returns-in-None : goal.returns-in-None
returns-in-None c =
    let i = c.loop-item.invariant in
    let items = c.args.items.now in
    let at = c.loop-item.item-index in
    let refused = c.in-None.ensures.refused i.0 i.2 in
    let none : tree_of items ≡ None = no_stack items (at + 1) (one_item items at (get_or items at (Var 0)) (Var 0) i.0 c.loop-item-test.true refl i.1 ∙ refused) in
    (λ h. cc, λ h. let s : is_some (tree_of items) ≡ false = ap is_some none in cc)

pub loop-item-preserved : goal.loop-item-preserved
loop-item-preserved c =
    let i = c.loop-item.invariant in
    let items = c.args.items.now in
    let at = c.loop-item.item-index in
    let pushed = c.in-Some.ensures.pushed i.0 i.2 in
    (pushed.0, one_item items at (get_or items at (Var 0)) (Var 0) i.0 c.loop-item-test.true refl i.1 ∙ pushed.1, pushed.2, omega (arith, i.3, c.in-Some.ensures.bound))
