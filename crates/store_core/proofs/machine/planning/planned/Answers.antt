use Rattle.std.proofs.Common.{◌≡◌, ℕ, ◌<◌, Option, length, get_or, sym, subst, arith}
use Rattle.std.proofs.lemmas.List.{get_or_read}
use Rattle.store_model.specs.declared.view.View.{View}
use Rattle.store_model.specs.Steps.{newcomer}
use Rattle.store_core.specs.Planning.{IsPlanOf, HasPlace, state_by}
use Rattle.store_core.specs.declared.machine.change.Change.{Change}
use Rattle.store_core.specs.declared.machine.change.Sight.{Sight}
use Rattle.store_core.proofs.Planning.{served}
use Rattle.store_core.proofs.Meant.{ok_map}
use Rattle.store_core.proofs.machine.planning.planned.Goals as goal

pub index-requires : goal.index-requires
index-requires c = let e = c.args.views.now.ok.0 in let l = c.requires.views in let s = c.requires.seat in omega arith

pub returns : goal.returns
returns c =
    let z = c.args.table.now.sizes in
    let s = state_by c.args.table.now.sizes c.args.lock.now c.args.table.now.words.items c.args.views.now.items in
    let f : ℕ → View = (λ j. get_or c.args.views.now.items j (newcomer c.args.table.now.sizes)) in
    let g : Sight = record { table = c.args.table; lock = c.args.lock; view = c.index.result; seat = c.args.seat } in
    let there : c.args.seat < length c.args.views.now.items = (let l = c.requires.views in let k = c.requires.seat in omega arith) in
    let own : get_or c.args.views.now.items c.args.seat (newcomer c.args.table.now.sizes) ≡ c.index.result.now = sym (get_or_read c.args.views.now.items c.args.seat c.index.result.now there c.index.ensures (newcomer c.args.table.now.sizes)) in
    ok_map c.with_place.result (λ o. (o ≡ c.in_ok-change.change) × HasPlace c.args.table.now.sizes o) (λ o. IsPlanOf z s c.args.seat c.args.step c.plan.new.view o × HasPlace c.args.table.now.sizes o) c.with_place.ensures
    (λ o k. (subst (λ (q : Option Change). IsPlanOf z s c.args.seat c.args.step c.plan.new.view q) (sym k.0) (served g f own c.requires.seat c.requires.holds c.args.step c.plan.new.view c.in_ok-change.change c.in_ok-change.ensures), k.1))
