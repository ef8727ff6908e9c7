use Rattle.std.proofs.Common.{ℕ, List, sym, subst, arith}
use Rattle.store_model.specs.declared.view.Place.{Place}
use Rattle.store_model.specs.Shown.{shown}
use Rattle.store_core.specs.RowLists.{IsList}
use Rattle.store_core.specs.declared.machine.row_lists.RowList.TheVariants.{Free}
use Rattle.store_core.proofs.Outcomes.{if_ok_option, at_some}
use Rattle.store_core.proofs.MarkedPlaces.{free_marked, not_apart_repeat}
use Rattle.store_core.proofs.machine.marking.free_rows.Goals as goal

pub returns : goal.returns
returns c =
    let z = c.args.table.now.sizes in
    let w : Place → ℕ = shown z c.args.table.now.words.items in
    let xs = c.as_slice.result.now in
    let is : IsList z w Free xs = subst (λ (ys : List ℕ). IsList z w Free ys) (sym c.as_slice.ensures.value) (at_some _ _ _ _ c.in-Some.is c.in_ok-places.ensures) in
    if_ok_option c.mark_places.result _ _ _ _ (λ r. not_apart_repeat z w xs is r)
    (λ v h. free_marked z w xs v.items (let a = c.if-load-from.false in let b = c.load.ensures in let d = c.from.ensures in omega arith) is h) c.mark_places.ensures
