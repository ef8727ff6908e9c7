use Rattle.std.proofs.Common.{ℕ, List, sym, subst}
use Rattle.std.specs.Prelude.{Bool}
use Rattle.store_model.specs.declared.view.Place.{Place}
use Rattle.store_model.specs.Shown.{shown}
use Rattle.store_model.specs.MarkedChains.{StandInFirst}
use Rattle.store_core.proofs.Chained.{chains_by, meant_uses}
use Rattle.store_core.proofs.Outcomes.{at_none, at_some}
use Rattle.store_core.proofs.machine.marked_chains.chains_stand.Goals as goal

pub returns-in_default : goal.returns-in_default
returns-in_default c = λ n h. at_none c.buckets_in_use.result _ _ c.in_default.is c.buckets_in_use.ensures (meant_uses _ _ _ n h)

pub returns : goal.returns
returns c =
    let z = c.args.table.now.sizes in
    let w : Place → ℕ = shown z c.args.table.now.words.items in
    let uses = at_some c.buckets_in_use.result c.in-Some.in_use _ _ c.in-Some.is c.buckets_in_use.ensures in
    let first = at_some c.in_ok-standing.field-0 c.in-Some-2.standing _ _ c.in-Some-2.is c.in_ok-standing.ensures in
    chains_by z w c.args.live.now c.in-Some.in_use c.as_slice.result.now c.do_all_stand.result uses.0 uses.1
    (subst (λ (v : List Bool). StandInFirst z w c.args.live.now c.in-Some.in_use c.in-Some.in_use v) (sym c.as_slice.ensures.value) first) c.do_all_stand.ensures
