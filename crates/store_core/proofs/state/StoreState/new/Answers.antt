use Rattle.std.proofs.Common.{List, ap, ◌∙◌, length}
use Rattle.std.proofs.lemmas.List.{length-replicate}
use Rattle.store_model.specs.declared.view.View.{View}
use Rattle.store_model.specs.Steps.{newcomer}
use Rattle.store_core.specs.declared.state.StoreState.TheInside.{Inside}
use Rattle.store_core.proofs.Applied.{total_small, new_is, held_new}
use Rattle.store_core.proofs.state.StoreState.new.Goals as goal

pub new-requires : goal.new-requires
new-requires c = total_small c.args.sizes c.requires

pub invariant_of-result : goal.invariant_of-result
invariant_of-result c =
    let s : Inside = record { table = c.in_ok-table.table; lock = c.new-2.result; views = c.in_ok-views.views } in
    held_new c.args.sizes s c.requires (new_is c.args.sizes c.in_ok-table.table.sizes c.new-2.result c.in_ok-table.table.words.items c.in_ok-views.views.items c.in_ok-table.ensures.sizes c.in_ok-table.ensures.words c.new-2.ensures c.in_ok-views.ensures)
    (ap (λ (vs : List View). length vs) c.in_ok-views.ensures ∙ length-replicate {A = View} c.args.sizes.seats (newcomer c.args.sizes))

pub returns : goal.returns
returns c = new_is c.args.sizes c.in_ok-table.table.sizes c.new-2.result c.in_ok-table.table.words.items c.in_ok-views.views.items c.in_ok-table.ensures.sizes c.in_ok-table.ensures.words c.new-2.ensures c.in_ok-views.ensures
