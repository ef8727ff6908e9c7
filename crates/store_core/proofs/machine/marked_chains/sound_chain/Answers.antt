use Rattle.std.proofs.Common.{ℕ, List, sym, subst}
use Rattle.store_model.specs.declared.view.Place.{Place}
use Rattle.store_model.specs.Shown.{shown}
use Rattle.store_model.specs.MarkedChains.{IsChain, OneStrays}
use Rattle.store_core.proofs.Chained.{meant_marked, meant_stands}
use Rattle.store_core.proofs.Outcomes.{at_false, at_none, at_some, never}
use Rattle.store_core.proofs.machine.marked_chains.sound_chain.Goals as goal

pub returns-in_default : goal.returns-in_default
returns-in_default c = λ n h. at_none c.in_ok-rows.field-0 _ _ c.in_default.is c.in_ok-rows.ensures n h.chains

pub returns-then-not-are_marked : goal.returns-then-not-are_marked
returns-then-not-are_marked c = λ n h.
    let z = c.args.table.now.sizes in
    let w : Place → ℕ = shown z c.args.table.now.words.items in
    let xs = c.as_slice.result.now in
    let chain : IsChain z w c.args.number xs = subst (λ (ys : List ℕ). IsChain z w c.args.number ys) (sym c.as_slice.ensures.value) (at_some c.in_ok-rows.field-0 c.in-Some.rows _ _ c.in-Some.is c.in_ok-rows.ensures) in
    never c.are_marked.result c.if-not-are_marked.true (c.are_marked.ensures.1 (meant_marked z w c.args.live.now n h c.args.number xs chain.linked))

pub returns-then-not-branch : goal.returns-then-not-branch
returns-then-not-branch c = λ n h.
    let z = c.args.table.now.sizes in
    let w : Place → ℕ = shown z c.args.table.now.words.items in
    let xs = c.as_slice-2.result.now in
    let chain : IsChain z w c.args.number xs = subst (λ (ys : List ℕ). IsChain z w c.args.number ys) (sym c.as_slice-2.ensures.value) (at_some c.in_ok-rows.field-0 c.in-Some.rows _ _ c.in-Some.is c.in_ok-rows.ensures) in
    meant_stands z w c.args.live.now n h c.args.number xs chain.linked
    (subst (λ (u : ℕ). OneStrays z w u c.args.number xs) c.requires.in_use (at_false c.in_ok-all_stand.field-0 _ _ c.if-not-branch.true c.in_ok-all_stand.ensures))
