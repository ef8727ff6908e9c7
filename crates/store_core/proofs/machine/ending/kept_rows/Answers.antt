use Rattle.std.proofs.Common.{ℕ, List, sym, subst}
use Rattle.std.specs.Prelude.{Bool}
use Rattle.store_model.specs.declared.view.Place.{Place}
use Rattle.store_model.specs.Shown.{shown}
use Rattle.store_model.specs.Marks.{MarksReached, MarksFree}
use Rattle.store_model.proofs.Ending.{broken_apart, broken_chains, whole_opposite}
use Rattle.store_core.proofs.Outcomes.{at_false, at_none, at_some, never}
use Rattle.store_core.proofs.machine.ending.kept_rows.Goals as goal

pub returns-in_default-2 : goal.returns-in_default-2
returns-in_default-2 c =
    let z = c.args.table.now.sizes in
    let w : Place → ℕ = shown z c.args.table.now.words.items in
    broken_apart z w (at_none c.in_ok-free.field-0 _ _ c.in_default-2.is c.in_ok-free.ensures)

pub returns-then-not-are_opposite : goal.returns-then-not-are_opposite
returns-then-not-are_opposite c = λ n h.
    let z = c.args.table.now.sizes in
    let w : Place → ℕ = shown z c.args.table.now.words.items in
    let live = subst (λ (v : List Bool). MarksReached w z.rows v) (sym c.as_slice.ensures.value) (at_some c.in_ok-live.field-0 c.in-Some.live _ _ c.in-Some.is c.in_ok-live.ensures) in
    let free = subst (λ (v : List Bool). MarksFree z w v) (sym c.as_slice-2.ensures.value) (at_some c.in_ok-free.field-0 c.in-Some-2.free _ _ c.in-Some-2.is c.in_ok-free.ensures) in
    never c.are_opposite.result c.if-not-are_opposite.true (c.are_opposite.ensures.1 (whole_opposite z w c.as_slice.result.now live c.as_slice-2.result.now free n h))

pub returns-then-not-branch : goal.returns-then-not-branch
returns-then-not-branch c =
    let z = c.args.table.now.sizes in
    let w : Place → ℕ = shown z c.args.table.now.words.items in
    let live = subst (λ (v : List Bool). MarksReached w z.rows v) (sym c.as_slice-3.ensures.value) (at_some c.in_ok-live.field-0 c.in-Some.live _ _ c.in-Some.is c.in_ok-live.ensures) in
    broken_chains z w c.as_slice-3.result.now live (at_false c.in_ok-chains_stand.field-0 _ _ c.if-not-branch.true c.in_ok-chains_stand.ensures)
