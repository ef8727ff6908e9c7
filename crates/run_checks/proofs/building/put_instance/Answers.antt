use Rattle.std.proofs.Common.{refl, ap, ℕ, List, length, arith}
use Rattle.std.specs.Prelude.{slice_index_or}
use Rattle.term_model.specs.declared.Item.TheVariants.{Var}
use Rattle.run_checks.proofs.Instancing.{item_comes, item_came, all_reached, last_is}
use Rattle.run_checks.proofs.building.put_instance.Goals as goal

pub put_item-requires : goal.put_item-requires
put_item-requires c = record {
  comes = item_comes c.args.pattern.now c.items-item-items.result.now c.loop-item.item-index (slice_index_or c.items-item-items.result.now c.loop-item.item-index (Var 0)) (Var 0) c.args.table.now c.loop-item.table c.args.bound.now c.loop-item.stack.items c.items-item-items.ensures.well_formed c.items-item-items.ensures.items c.loop-item-test.true refl c.loop-item.invariant c.requires.may;
}

pub loop-item-preserved : goal.loop-item-preserved
loop-item-preserved c =
    item_came c.args.pattern.now c.items-item-items.result.now c.loop-item.item-index (slice_index_or c.items-item-items.result.now c.loop-item.item-index (Var 0)) (Var 0) c.args.table.now c.loop-item.table c.put_item.new.table c.args.bound.now c.loop-item.stack.items c.put_item.new.stack.items c.items-item-items.ensures.well_formed c.items-item-items.ensures.items c.loop-item-test.true refl c.loop-item.invariant c.in_ok-put_item.ensures

pub unreachable-requires : goal.unreachable-requires
unreachable-requires c =
    let o = all_reached c.args.pattern.now c.items-item-items.result.now c.loop-item.item-index c.args.table.now c.loop-item.table c.args.bound.now c.loop-item.stack.items c.items-item-items.ensures.well_formed c.items-item-items.ensures.items c.loop-item-test.false c.requires.there c.loop-item.invariant in
    let l = ap (λ (ns : List ℕ). length ns) o.is in
    omega (arith, l, c.in_default.ensures.cases.0)

pub returns : goal.returns
returns c =
    let o = all_reached c.args.pattern.now c.items-item-items.result.now c.loop-item.item-index c.args.table.now c.loop-item.table c.args.bound.now c.loop-item.stack.items c.items-item-items.ensures.well_formed c.items-item-items.ensures.items c.loop-item-test.false c.requires.there c.loop-item.invariant in
    last_is c.args.table.now c.loop-item.table c.args.bound.now c.loop-item.stack.items c.pop.new.self.items c.in-Some.number c.args.pattern.now o c.in-Some.ensures.items
