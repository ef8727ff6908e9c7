use Rattle.std.proofs.Common.{◌≡◌, ◌+◌, ℕ, List, sym, subst, length, take, drop, ◌++◌, get_or}
use Rattle.std.specs.Prelude.{Bool}
use Rattle.store_model.specs.declared.view.Place.{Place}
use Rattle.store_model.specs.Shown.{shown}
use Rattle.store_model.specs.Marks.{Marks}
use Rattle.store_model.specs.MarkedChains.{IsSound, StandInFirst}
use Rattle.store_core.proofs.Chained.{first_more, whole}
use Rattle.store_core.proofs.Outcomes.{at_some}
use Rattle.store_core.proofs.machine.marked_chains.standing_rows.Goals as goal

pub loop-number-preserved : goal.loop-number-preserved
loop-number-preserved c =
    let z = c.args.table.now.sizes in
    let w : Place → ℕ = shown z c.args.table.now.words.items in
    let m = c.loop-number in
    let xs = c.as_slice.result.now in
    let sound : IsSound z w c.args.live.now c.args.in_use m.number xs = subst (λ (ys : List ℕ). IsSound z w c.args.live.now c.args.in_use m.number ys) (sym c.as_slice.ensures.value) (at_some c.in_ok-rows.field-0 c.in-Some.rows _ _ c.in-Some.is c.in_ok-rows.ensures) in
    let after = c.mark_rows.new.marks in
    let marks : Marks (λ k. get_or xs k 0) (length xs) m.standing.items after = subst (λ (v : List Bool). Marks (λ k. get_or xs k 0) (length xs) v after) c.as_mut_slice.ensures.value c.mark_rows.ensures in
    let same : take m.standing.len (after ++ drop (length after) m.standing.items) ≡ after = whole m.standing.len after m.standing.items m.standing.ok.0 marks.size in
    subst (λ (v : List Bool). StandInFirst z w c.args.live.now c.args.in_use (m.number + 1) v) (sym same)
    (first_more z w c.args.live.now c.args.in_use m.number m.standing.items after xs m.invariant sound marks)
